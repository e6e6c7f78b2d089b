pub mod Answers
pub mod Around
pub mod Conditions
pub mod Keeps
pub mod Laws
