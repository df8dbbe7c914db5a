mod WordLemmas
mod LineLemmas
mod LawLemmas
mod SalvageLemmas
pub mod RescueLemmas
pub mod RescueLawLemmas
pub mod RowLemmas
pub mod FitLemmas
