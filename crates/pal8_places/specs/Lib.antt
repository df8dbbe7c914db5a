pub mod Places
pub mod Brackets
pub mod Passing
pub mod Steps
