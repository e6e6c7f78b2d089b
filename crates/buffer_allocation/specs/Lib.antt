pub mod Layouts
pub mod Copies
pub mod Limits
pub mod Allocated
