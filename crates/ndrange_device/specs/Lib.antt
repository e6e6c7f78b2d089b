pub mod Outcomes
pub mod Progress
