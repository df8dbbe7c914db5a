pub mod FlowLemmas
pub mod LawLemmas
