pub mod Parts
pub mod Spells
