pub mod NameLemmas
pub mod PutLemmas
