pub mod GettingMany
pub mod Laws
pub mod Showing
pub mod ShowingParts
pub mod Texts
pub mod Wishing
