pub mod TilePhases
pub mod TileBarriers
pub mod TileRuns
mod GroupRuns
mod KernelRuns
mod Increments
mod FourIncrements
mod RowIncrements
mod TidyIndices
mod LoweredTerms
mod DeviceFaults
mod DeviceAlike
mod DeviceRuns
mod DeviceText
