pub mod Names
pub mod TermText
