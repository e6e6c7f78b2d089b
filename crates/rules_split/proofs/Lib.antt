pub mod Less
pub mod Lists
pub mod Reducing
pub mod Rows
pub mod Splitting
pub mod Tiling
pub mod Tried
pub mod Typed
