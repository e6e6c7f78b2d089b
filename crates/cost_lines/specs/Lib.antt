pub mod Lines
pub mod Costs
