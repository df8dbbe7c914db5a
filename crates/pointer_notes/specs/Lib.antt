pub mod Views
pub mod References
pub mod Notes
pub mod Heads
pub mod Tables
pub mod Steps
