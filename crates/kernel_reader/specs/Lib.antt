pub mod Views
pub mod Noted
pub mod Exactly
pub mod Sequences
