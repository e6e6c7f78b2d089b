pub mod Regions
pub mod Short
pub mod Traffic
pub mod Laws
