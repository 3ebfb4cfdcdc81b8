pub mod Solves
pub mod Numbers
pub mod Order
pub mod Made
pub mod Next
pub mod Shares
pub mod Others
