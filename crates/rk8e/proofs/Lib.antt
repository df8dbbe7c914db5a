pub mod LawLemmas
pub mod MoveLemmas
pub mod OperatorLemmas
pub mod SettledLemmas
pub mod StepLemmas
