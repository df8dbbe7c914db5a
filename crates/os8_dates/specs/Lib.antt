pub mod Dates
pub mod Days
pub mod Spelling
pub mod Laws
