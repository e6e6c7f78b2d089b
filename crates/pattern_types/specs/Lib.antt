pub mod Judged
pub mod Judgement
pub mod Numbers
pub mod Refusals
pub mod Scopes
pub mod Tests
