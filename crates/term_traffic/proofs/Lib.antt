-- The lemmas of the crate.
pub mod Short
pub mod Codes
pub mod Items
pub mod Turned
pub mod Groups
pub mod Grids
pub mod Runs
