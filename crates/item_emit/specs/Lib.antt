pub mod Blocks
pub mod Scopes
pub mod Parts
pub mod Copies
pub mod Inputs
pub mod Nodes
