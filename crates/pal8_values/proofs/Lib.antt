pub mod FaultLemmas
pub mod WordLemmas
pub mod NearLemmas
pub mod AskLemmas
pub mod ReachLemmas
pub mod GrowLemmas
