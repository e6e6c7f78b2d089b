pub mod Terms
pub mod Indices
pub mod Limits
pub mod Tidy
pub mod TidyLaws
