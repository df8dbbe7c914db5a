pub mod Names
pub mod OptionLemmas
mod CommandLemmas
pub mod NumberLemmas
mod InfoLemmas
