pub mod Rows
pub mod Symbols
pub mod References
pub mod Listings
pub mod SpotSteps
pub mod Laws
