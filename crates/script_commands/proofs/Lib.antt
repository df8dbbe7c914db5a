mod InputLemmas
mod LawLemmas
mod RunLemmas
mod SaveLemmas
mod SessionLemmas
