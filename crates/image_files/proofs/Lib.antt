mod AgainLemmas
mod EndLemmas
mod HoldLemmas
pub mod KeepLemmas
pub mod KindLemmas
pub mod LeaveLemmas
pub mod LeftoverLemmas
mod ReadLemmas
pub mod ReasonLemmas
mod VolumeLemmas
pub mod WordsLemmas
mod UnsavedLemmas
pub mod WorkLemmas
