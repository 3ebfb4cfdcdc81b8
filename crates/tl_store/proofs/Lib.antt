pub mod Entries
pub mod Victims
