pub mod Terms
pub mod Loads
pub mod Places
pub mod Annotated
