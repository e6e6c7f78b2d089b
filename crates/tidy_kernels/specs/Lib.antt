pub mod Pass
pub mod Places
pub mod Laws
