pub mod CellCounts
pub mod CountLemmas
pub mod RunLemmas
pub mod ListLemmas
pub mod CellLemmas
pub mod LawLemmas
pub mod TextLemmas
