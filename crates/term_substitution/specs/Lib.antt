pub mod Paths
pub mod Renaming
pub mod States
pub mod Transfers
