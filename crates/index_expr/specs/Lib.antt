pub mod Expression
pub mod Values
pub mod Lengths
pub mod Laws
