pub mod Compiled
pub mod Laws
pub mod Legal
pub mod Meets
pub mod Sequence
pub mod Placed
