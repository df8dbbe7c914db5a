pub mod Core
pub mod Loading
pub mod Load
pub mod Steps
