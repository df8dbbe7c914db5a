pub mod LawLemmas
pub mod FileLemmas
pub mod Joined
pub mod MendingLemmas
pub mod WideLemmas
