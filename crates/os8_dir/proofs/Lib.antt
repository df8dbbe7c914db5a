pub mod NameLemmas
pub mod SpelledLemmas
mod WorkedVolumes
pub mod OrderLemmas
pub mod FoundLemmas
pub mod ReadingLemmas
pub mod LinkLemmas
pub mod ReadsLemmas
pub mod LawLemmas
pub mod MapLemmas
pub mod KnownLemmas
pub mod TidyLemmas
pub mod SegmentLemmas
pub mod ReadBackLemmas
pub mod ChangeLemmas
pub mod FileLemmas
pub mod CountLemmas
pub mod ApartLemmas
pub mod SteadyLemmas
pub mod ChosenLemmas
pub mod NewLemmas
mod RenamingLemmas
mod InformationLemmas
