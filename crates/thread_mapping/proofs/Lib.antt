pub mod Bound
pub mod Sites
