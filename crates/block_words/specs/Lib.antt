pub mod Laws
pub mod Lines
pub mod Rows
pub mod Patching
pub mod PatchLaws
