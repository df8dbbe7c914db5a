pub mod CutSteps
pub mod Items
pub mod Lines
pub mod ReadSteps
pub mod Reading
pub mod Replies
pub mod Written
