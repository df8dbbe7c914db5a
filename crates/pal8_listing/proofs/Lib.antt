pub mod ListingLemmas
pub mod UseLemmas
pub mod LineLemmas
pub mod WalkLemmas
pub mod CoverLemmas
pub mod WordLemmas
pub mod LawLemmas
pub mod ItemLemmas
