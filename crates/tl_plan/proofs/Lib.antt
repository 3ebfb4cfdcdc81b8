pub mod Changes
pub mod Looking
pub mod Marks
pub mod Noting
pub mod Steps
pub mod Tabling
