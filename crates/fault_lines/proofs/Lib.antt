pub mod LaunchLine
pub mod Taken
