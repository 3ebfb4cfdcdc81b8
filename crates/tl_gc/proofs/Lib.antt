pub mod Choosing
pub mod Collected
pub mod Lists
pub mod Marking
pub mod Noting
