pub mod BreakLemmas
pub mod Json
pub mod Digits
pub mod SameLemmas
