pub mod Counts
pub mod Json
pub mod Spacing
