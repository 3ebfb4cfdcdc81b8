pub mod Data
pub mod Standing
pub mod Names
