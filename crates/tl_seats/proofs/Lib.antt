pub mod Carrying
pub mod Adding
pub mod Since
