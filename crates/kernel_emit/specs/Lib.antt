pub mod Plans
pub mod Kernels
pub mod Plain
pub mod Laws
pub mod Emittable
