pub mod Asked
pub mod Causes
pub mod MemoryFiles
pub mod MemorySink
