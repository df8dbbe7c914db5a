pub mod Fuse
pub mod Image
pub mod Stores
pub mod Volume
