pub mod Logs
pub mod Rows
pub mod Keeps
pub mod Turns
