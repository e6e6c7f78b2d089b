pub mod Readings
pub mod Running
pub mod Views
pub mod Given
pub mod Exactly
pub mod Told
