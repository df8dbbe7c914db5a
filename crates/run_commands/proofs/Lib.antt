mod KeepLemmas
mod RunLemmas
mod DriveLemmas
mod ConsoleLemmas
mod ReadyLemmas
