pub mod Block
pub mod Outcome
pub mod Parts
pub mod Path
pub mod Same
