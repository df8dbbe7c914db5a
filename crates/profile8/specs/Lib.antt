pub mod Counts
pub mod CountSteps
pub mod Profile
pub mod CellSteps
pub mod TextSteps
