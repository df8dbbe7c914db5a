pub mod Instructions
pub mod Names
pub mod Steps
pub mod Shown
