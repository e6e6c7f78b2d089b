mod Elements
mod Statements
mod TidiedTerms
mod TidiedGroups
mod TidiedGrids
mod TidiedKernels
pub mod Nodes
pub mod Formulas
pub mod Readings
pub mod Lengths
pub mod Views
pub mod Codes
pub mod Arguments
pub mod TermIndices
pub mod GroupIndices
pub mod GridIndices
pub mod KernelIndices
mod Turns
