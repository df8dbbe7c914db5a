mod AskLemmas
mod KeepLemmas
mod SignLemmas
mod SourceLemmas
