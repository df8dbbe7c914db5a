pub mod Texts
pub mod Kinds
