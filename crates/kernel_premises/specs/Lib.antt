pub mod Within
pub mod Sound
pub mod Terms
pub mod Soundness
pub mod GroupGrammar
pub mod Arrays
