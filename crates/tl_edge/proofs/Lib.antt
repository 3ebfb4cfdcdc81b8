pub mod Acting
pub mod Changes
pub mod Choosing
pub mod Noting
pub mod Rows
pub mod Unnamed
pub mod Once
