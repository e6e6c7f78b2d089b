pub mod App
pub mod Requests
