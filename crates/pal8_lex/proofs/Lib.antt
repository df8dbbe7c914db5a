pub mod DraftLemmas
pub mod FurtherLemmas
pub mod LastLemmas
pub mod LawLemmas
pub mod WorkedSources
