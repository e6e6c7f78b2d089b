pub mod Traffic
pub mod Laws
