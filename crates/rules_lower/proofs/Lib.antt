pub mod Kept
pub mod Lanes
pub mod Fours
pub mod Binders
