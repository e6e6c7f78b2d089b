pub mod Conflicts
pub mod Fencing
pub mod Needed
pub mod Separates
pub mod Code
pub mod Laws
