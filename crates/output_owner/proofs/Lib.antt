pub mod Products
pub mod Rows
pub mod Legal
pub mod Through
pub mod Roots
pub mod Factors
