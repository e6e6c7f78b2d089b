pub mod Printing
pub mod Told
pub mod Tidied
pub mod Short
pub mod Made
pub mod Lengths
