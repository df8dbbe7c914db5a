pub mod Changed
pub mod Asking
pub mod Changes
pub mod Tasks
pub mod Words
pub mod GivenWords
pub mod Steps
