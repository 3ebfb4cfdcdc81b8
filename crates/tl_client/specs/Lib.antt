pub mod Rest
pub mod Feeds
pub mod Pieces
