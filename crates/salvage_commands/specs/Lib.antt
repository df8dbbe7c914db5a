pub mod Laws
pub mod Rescuing
pub mod ScanningBlocks
