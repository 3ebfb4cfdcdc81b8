pub mod Data
pub mod Standing
