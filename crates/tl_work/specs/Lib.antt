pub mod Errors
pub mod Setting
pub mod Loads
pub mod Made
pub mod Runs
pub mod Saves
