pub mod Cut
pub mod Bound
pub mod Parts
pub mod Sequence
pub mod Refused
pub mod Values
pub mod Laws
