pub mod BeginLemmas
pub mod TextLemmas
pub mod BlockLemmas
pub mod PlaceLemmas
pub mod TurnLemmas
pub mod LastBlockLemmas
pub mod AgainLemmas
pub mod WorkedRows
