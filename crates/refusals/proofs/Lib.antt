pub mod LineTextLemmas
pub mod NameLemmas
