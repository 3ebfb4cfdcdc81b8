pub mod FromDepot
pub mod Load
pub mod Vault
