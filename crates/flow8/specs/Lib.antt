pub mod Exits
pub mod Flow
pub mod FlowSteps
pub mod Laws
