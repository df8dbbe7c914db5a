pub mod NameSteps
pub mod PutSteps
pub mod Putting
