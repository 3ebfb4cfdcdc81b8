pub mod BadKinds
pub mod Lines
pub mod Words
pub mod Tokens
pub mod Places
pub mod Commands
pub mod Reading
pub mod Script
