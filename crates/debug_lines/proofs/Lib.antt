pub mod BlankLemmas
pub mod BreakLemmas
pub mod LawLemmas
pub mod LineLemmas
pub mod NumberLemmas
pub mod WordLemmas
