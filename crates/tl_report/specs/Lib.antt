pub mod Summary
pub mod Words
