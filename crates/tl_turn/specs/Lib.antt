pub mod Log
pub mod Views
pub mod Plays
pub mod Law
