mod ReadingLemmas
mod JudgingLemmas
mod ClaimLemmas
mod SoundLemmas
mod WholeLemmas
mod FoundLemmas
