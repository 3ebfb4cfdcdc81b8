pub mod Among
pub mod Finding
pub mod Ending
pub mod TakingUp
pub mod Making
pub mod Open
pub mod RunningNext
pub mod SavingNext
