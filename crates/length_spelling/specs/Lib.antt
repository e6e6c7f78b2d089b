pub mod Turns
pub mod Formulas
pub mod Laws
