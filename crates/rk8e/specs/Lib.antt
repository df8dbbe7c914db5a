pub mod Packs
pub mod State
pub mod Command
pub mod Go
pub mod Instructions
pub mod Time
pub mod Transfer
pub mod Laws
