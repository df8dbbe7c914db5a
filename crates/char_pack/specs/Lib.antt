pub mod Packing
pub mod Texts
pub mod Reading
pub mod StoreSteps
