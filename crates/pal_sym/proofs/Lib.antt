pub mod EntryLemmas
pub mod PermanentLemmas
pub mod PlaceLemmas
pub mod TableLemmas
