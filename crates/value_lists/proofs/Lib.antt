pub mod Ways
pub mod Lengths
pub mod Held
pub mod Listing
pub mod Small
pub mod Typed
pub mod Blank
