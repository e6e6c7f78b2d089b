pub mod Texts
pub mod Line
pub mod Data
pub mod Accepted
pub mod Admitted
pub mod Sum
