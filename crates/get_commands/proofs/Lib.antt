mod AskLemmas
pub mod CountLemmas
pub mod GettingMany
pub mod Looking
pub mod WordLemmas
