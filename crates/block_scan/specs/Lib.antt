pub mod Chances
pub mod Laws
pub mod Passages
pub mod Pieces
pub mod Programs
pub mod SegmentSteps
pub mod Segments
pub mod TailSteps
