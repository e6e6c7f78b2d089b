-- The lemmas of the crate.
pub mod Digits
pub mod Sums
