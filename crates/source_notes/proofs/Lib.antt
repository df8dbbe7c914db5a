pub mod ChainLemmas
pub mod CommentLemmas
pub mod GraphicLemmas
