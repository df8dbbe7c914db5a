pub mod Columns
pub mod Found
pub mod Indexing
pub mod IndexSteps
pub mod Refusing
pub mod Volumes
pub mod TextColumns
pub mod Laws
