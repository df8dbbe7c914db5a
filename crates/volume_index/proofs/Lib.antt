pub mod IndexLemmas
pub mod JsonLemmas
mod SameLemmas
