mod Buffers
mod Values
mod Order
pub mod Keeping
pub mod Alone
