mod ScanLemmas
mod PathLemmas
mod ReplaceLemmas
mod FolderLemmas
