pub mod Answers
pub mod Found
pub mod Moves
pub mod Pins
pub mod Standing
pub mod Tables
