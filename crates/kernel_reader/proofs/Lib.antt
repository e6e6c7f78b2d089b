pub mod Found
pub mod Whole
pub mod Deep
pub mod Fronts
pub mod InOrder
