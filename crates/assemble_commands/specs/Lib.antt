pub mod Assembling
pub mod Clashes
pub mod FaultSteps
pub mod Faults
pub mod Laws
pub mod Outputs
pub mod Places
pub mod Sources
