pub mod Alone
pub mod Finds
pub mod Turns
