pub mod Commands
pub mod Events
pub mod Journals
pub mod Shown
