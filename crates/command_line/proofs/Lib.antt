pub mod Plain
pub mod Seeds
pub mod Forms
pub mod Entered
