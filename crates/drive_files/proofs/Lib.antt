mod OpenLemmas
pub mod OutputLemmas
mod SaveLemmas
pub mod KeepLemmas
pub mod PaperKeepLemmas
pub mod RestoreLemmas
mod QuickLemmas
mod DeviceLemmas
mod RoundLemmas
