pub mod CoreLemmas
pub mod LaidLemmas
pub mod FedLemmas
