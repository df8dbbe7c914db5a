mod ImageLemmas
mod TapeLemmas
mod GetLemmas
mod CheckLemmas
mod FirstBlockLemmas
pub mod LawLemmas
mod AskLemmas
pub mod AgainLemmas
mod ExtentLemmas
mod HostTextLemmas
mod SegmentLemmas
mod ComeBackLemmas
mod PlaceLemmas
mod DeleteLemmas
mod SqueezeLemmas
mod ChangeLemmas
mod InformationLemmas
mod BlockLemmas
mod LongLemmas
mod PlainLemmas
mod CopyLemmas
pub mod ListLemmas
pub mod RunLemmas
