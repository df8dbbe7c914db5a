pub mod Laws
pub mod Salvaging
pub mod Scanning
pub mod Rows
pub mod Rescued
pub mod RescueLaws
pub mod Steps
