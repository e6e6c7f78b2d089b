pub mod HandedOn
pub mod One
pub mod Refused
