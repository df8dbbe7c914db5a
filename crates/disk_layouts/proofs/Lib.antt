mod CopyLemmas
mod FileLemmas
mod LawLemmas
