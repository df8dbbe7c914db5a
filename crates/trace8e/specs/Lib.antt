pub mod Names
pub mod Trace
pub mod Tracing
pub mod StoresSteps
pub mod TracingSteps
pub mod Counts
pub mod Papers
