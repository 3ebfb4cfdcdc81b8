pub mod Following
pub mod Naming
pub mod Parts
