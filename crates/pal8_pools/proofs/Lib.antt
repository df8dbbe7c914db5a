mod Rows
pub mod AskLemmas
pub mod ValueLemmas
pub mod TableLemmas
pub mod CellLemmas
pub mod ClashLemmas
