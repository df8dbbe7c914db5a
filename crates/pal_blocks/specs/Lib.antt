pub mod Blocks
pub mod Sources
pub mod Schedule
pub mod Passing
pub mod Progress
pub mod Turns
pub mod Steps
