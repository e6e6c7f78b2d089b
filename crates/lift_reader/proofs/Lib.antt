pub mod Belonging
pub mod Cut
pub mod Numbers
pub mod OneCut
pub mod Named
pub mod Given
pub mod Finished
pub mod Whole
