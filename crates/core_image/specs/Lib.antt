pub mod Segments
pub mod Image
pub mod Fault
pub mod Converted
pub mod ReadSteps
