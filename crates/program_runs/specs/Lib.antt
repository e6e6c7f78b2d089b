pub mod Alike
pub mod Costs
pub mod Demo
pub mod Runs
pub mod Sequences
pub mod Started
pub mod Table
