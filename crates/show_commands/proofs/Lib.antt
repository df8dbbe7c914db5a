pub mod CountLemmas
pub mod DateLemmas
pub mod DumpLemmas
pub mod Looking
pub mod OwnerLemmas
pub mod Sounding
pub mod VolumeLemmas
