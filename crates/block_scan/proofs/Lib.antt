mod PassageLemmas
mod PieceLemmas
mod FoundLemmas
mod ProgramLemmas
mod TailLemmas
mod ChanceLemmas
mod SegmentLemmas
