pub mod StartLemmas
pub mod LineLemmas
