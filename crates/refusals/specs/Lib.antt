pub mod Faults
pub mod Listed
pub mod Shown
