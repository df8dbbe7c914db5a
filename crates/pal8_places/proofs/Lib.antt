pub mod TagLemmas
