-- The lemmas of the crate.
pub mod Short
pub mod Barriers
pub mod Groups
pub mod Plans
pub mod Told
pub mod Held
