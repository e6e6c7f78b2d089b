-- The lemmas of the crate.
pub mod Turns
pub mod Left
pub mod Counted
