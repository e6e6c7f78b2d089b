pub mod Spelling
pub mod Kinds
pub mod Rows
pub mod Numbers
pub mod Decided
pub mod Meaning
pub mod SequenceText
