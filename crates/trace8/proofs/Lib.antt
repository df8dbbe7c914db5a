pub mod ChangeLemmas
pub mod LineLemmas
pub mod RunLemmas
pub mod SourceLemmas
pub mod WaitingLemmas
