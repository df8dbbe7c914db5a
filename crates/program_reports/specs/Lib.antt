pub mod Program
pub mod Cores
pub mod Prefixes
pub mod LineEnds
