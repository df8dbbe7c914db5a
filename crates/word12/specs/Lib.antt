pub mod Octal
pub mod Sixbit
