pub mod Ranges
pub mod Polynomial
pub mod Shown
pub mod Decisions
pub mod Code
