pub mod Workers
pub mod Order
pub mod Events
pub mod Installs
