pub mod Rows
pub mod Blocks
pub mod Scopes
pub mod Copies
pub mod Written
