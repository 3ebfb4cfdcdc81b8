pub mod Steps
pub mod Rounding
