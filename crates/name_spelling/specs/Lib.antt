pub mod Spelling
pub mod Reading
pub mod Laws
pub mod Patterns
pub mod PatternSteps
pub mod PatternLaws
