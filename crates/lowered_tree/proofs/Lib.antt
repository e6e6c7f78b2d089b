pub mod Bound
pub mod Legal
mod Whole
