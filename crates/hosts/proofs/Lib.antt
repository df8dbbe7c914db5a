pub mod After
pub mod Crashes
pub mod Over
pub mod Turns
