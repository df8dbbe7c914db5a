pub mod Entries
pub mod Names
pub mod Permanent
pub mod SymbolTable
pub mod Values
pub mod Steps
