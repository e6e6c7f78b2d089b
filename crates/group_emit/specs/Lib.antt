pub mod Used
pub mod Settings
