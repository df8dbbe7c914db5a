pub mod TextLemmas
pub mod RowLemmas
pub mod ReferenceLemmas
pub mod StandLemmas
pub mod LawLemmas
