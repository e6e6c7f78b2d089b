pub mod Compiling
pub mod Cutting
pub mod Emitting
pub mod InTurn
pub mod Legality
pub mod Once
pub mod Placing
