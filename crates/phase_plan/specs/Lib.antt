pub mod Origins
pub mod Bodies
pub mod Walks
pub mod Phases
pub mod Planned
pub mod Plans
