pub mod Places
pub mod Spelling
pub mod Showing
