mod KeepLemmas
