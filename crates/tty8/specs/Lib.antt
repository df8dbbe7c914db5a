pub mod Bits
pub mod Teletype
