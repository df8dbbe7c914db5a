pub mod FrameLemmas
pub mod PackLemmas
pub mod TextLemmas
