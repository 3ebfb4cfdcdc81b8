pub mod Streams
pub mod Endings
pub mod WordLemmas
pub mod Scripts
pub mod Rests
