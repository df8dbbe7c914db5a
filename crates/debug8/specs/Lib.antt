pub mod Breaks
pub mod Laws
pub mod Snapshot
pub mod ValueSteps
