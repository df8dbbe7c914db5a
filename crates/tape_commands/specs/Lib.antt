pub mod Kinds
pub mod Programs
pub mod Rims
pub mod Sources
pub mod Tapes
