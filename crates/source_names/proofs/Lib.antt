pub mod NameLemmas
pub mod LawLemmas
pub mod SpellingLemmas
pub mod GivenLemmas
pub mod SaidLemmas
