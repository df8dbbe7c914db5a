pub mod Findings
pub mod Lines
pub mod Surveying
pub mod Laws
pub mod Steps
