pub mod Disks
pub mod Files
pub mod Kept
pub mod Laws
pub mod Steps
