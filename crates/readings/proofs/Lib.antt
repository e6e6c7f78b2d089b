pub mod Exact
pub mod Fronts
pub mod Meanings
pub mod OneReading
pub mod Ran
