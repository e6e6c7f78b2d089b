-- The lemmas of the crate.
pub mod Turns
pub mod Held
pub mod Written
pub mod Places
pub mod SameTraffic
