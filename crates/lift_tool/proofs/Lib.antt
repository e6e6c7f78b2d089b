pub mod Alike
pub mod Ends
pub mod Reading
pub mod Unread
