pub mod Legal
pub mod Printable
pub mod Unbroken
pub mod Laws
pub mod Stands
pub mod Groups
