pub mod Files
pub mod Lists
pub mod Named
pub mod Seats
pub mod Within
pub mod Saving
