pub mod FrameLemmas
pub mod ItemLemmas
pub mod PrefixLemmas
pub mod ReaderLemmas
pub mod Scan
pub mod WritingLemmas
pub mod MapLemmas
pub mod OpenLemmas
