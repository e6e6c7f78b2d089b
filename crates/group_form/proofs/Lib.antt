pub mod Lists
pub mod Most
pub mod Named
pub mod Seen
pub mod Sight
pub mod Counters
pub mod Uses
pub mod Phased
pub mod Form
pub mod Copies
pub mod Outputs
pub mod Whole
pub mod Theorem
pub mod GridStages
pub mod GridSight
pub mod GridCounters
pub mod GridCode
pub mod GridPhased
pub mod GridCopies
pub mod GridOutputs
pub mod GridWhole
pub mod Needed
pub mod Programs
pub mod Shown
pub mod Arguments
pub mod ChosenForms
pub mod Printer
pub mod GridPrinter
pub mod Placed
mod AlikeEnds
pub mod AlikeCodes
pub mod AlikeTheorem
pub mod GridNeeded
pub mod GridAlike
pub mod GridChosen
pub mod GridPrograms
mod GridAlikeTheorem
mod InRange
mod BarrierFree
mod EitherPrinter
