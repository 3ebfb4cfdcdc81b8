pub mod Fewer
pub mod OpenReads
pub mod Running
pub mod Counting
