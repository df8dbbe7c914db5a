pub mod CodeLemmas
pub mod TextLemmas
pub mod PlainLemmas
pub mod ShortLemmas
pub mod PatternLemmas
pub mod ChoiceLemmas
pub mod SpelledLemmas
