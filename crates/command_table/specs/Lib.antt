pub mod Tables
pub mod Found
pub mod Values
pub mod Steps
