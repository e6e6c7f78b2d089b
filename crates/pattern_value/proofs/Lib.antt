pub mod Held
pub mod ByLanes
pub mod Layouts
pub mod Operators
pub mod Sizes
pub mod Typed
pub mod Under
