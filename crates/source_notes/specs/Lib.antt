pub mod Referrers
pub mod Characters
pub mod Notes
pub mod Tables
pub mod Laws
pub mod Steps
