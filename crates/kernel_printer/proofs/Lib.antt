pub mod Blocks
pub mod Written
pub mod Related
pub mod InOrder
