pub mod Asking
pub mod UnfoundWords
pub mod Texts
pub mod Wishing
