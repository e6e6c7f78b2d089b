pub mod Held
pub mod Pieces
pub mod Shut
pub mod World
