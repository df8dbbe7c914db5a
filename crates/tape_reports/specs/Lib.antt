pub mod Listing
pub mod Lists
pub mod Starts
pub mod Given
pub mod Written
pub mod Rims
