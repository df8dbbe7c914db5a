pub mod ReadLemmas
pub mod Scan
