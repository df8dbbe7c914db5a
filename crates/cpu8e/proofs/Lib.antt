pub mod CommonLemmas
pub mod RowLemmas
pub mod SameRunLemmas
pub mod UserLemmas
pub mod QuickLemmas
