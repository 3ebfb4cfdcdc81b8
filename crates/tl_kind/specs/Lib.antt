pub mod Kinds
pub mod Reading
pub mod Refusals
pub mod Scope
pub mod Words
pub mod Written
