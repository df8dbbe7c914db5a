pub mod Names
pub mod Said
pub mod Steps
pub mod Laws
