pub mod OctalLemmas
pub mod TwelveBits
