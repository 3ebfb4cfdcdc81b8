pub mod Asks
pub mod Counting
pub mod Lines
pub mod Ready
pub mod Waits
