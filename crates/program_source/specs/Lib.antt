pub mod Ends
pub mod Laws
pub mod Program
pub mod SourceTerms
pub mod StepsText
pub mod Terms
