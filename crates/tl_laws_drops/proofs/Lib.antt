pub mod Drop
pub mod TasksKept
pub mod Choosing
pub mod ManyDrops
pub mod Tickets
pub mod Owing
