pub mod Sums
pub mod Words
pub mod Laws
pub mod Answering
pub mod Steps
