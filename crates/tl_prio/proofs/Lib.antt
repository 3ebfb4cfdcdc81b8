pub mod Changes
pub mod Counting
pub mod Noting
pub mod Places
pub mod Raising
pub mod Sharing
pub mod Walking
