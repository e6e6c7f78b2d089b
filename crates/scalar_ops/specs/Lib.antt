pub mod Operators
pub mod Regroup
pub mod Laws
