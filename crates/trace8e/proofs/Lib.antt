pub mod ChangeLemmas
pub mod LineLemmas
pub mod RunLemmas
pub mod CountLemmas
pub mod ProfileRunLemmas
pub mod PaperLemmas
