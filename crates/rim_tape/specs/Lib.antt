pub mod Pairs
pub mod Tape
pub mod Fault
pub mod Converted
pub mod ReadSteps
