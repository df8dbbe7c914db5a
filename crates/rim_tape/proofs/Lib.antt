pub mod FrameLemmas
pub mod Scan
