mod PrefixLemmas
mod LineEndLemmas
