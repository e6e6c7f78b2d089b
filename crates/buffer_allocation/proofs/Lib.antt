pub mod Bound
pub mod Held
