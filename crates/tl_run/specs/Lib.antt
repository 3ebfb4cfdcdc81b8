pub mod Plays
pub mod Streams
pub mod Status
pub mod Alone
