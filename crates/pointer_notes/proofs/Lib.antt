pub mod NodeLemmas
pub mod ChainLemmas
pub mod CommentLemmas
pub mod ListLemmas
pub mod ArgumentLemmas
pub mod NoteLemmas
