pub mod Values
pub mod Levels
mod Learnt
pub mod Loaded
