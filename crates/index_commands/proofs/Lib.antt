mod KeepLemmas
mod ColumnLemmas
