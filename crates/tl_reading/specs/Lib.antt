pub mod Acts
pub mod Journals
pub mod Replies
pub mod Stops
