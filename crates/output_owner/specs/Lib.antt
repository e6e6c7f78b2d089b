pub mod Written
pub mod Numbers
pub mod Owners
pub mod Outputs
