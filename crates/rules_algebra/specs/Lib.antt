pub mod Fusing
pub mod Inlining
pub mod Layouts
pub mod Padding
pub mod Rows
pub mod Shapes
pub mod Steps
pub mod Strides
