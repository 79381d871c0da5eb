pub mod Memory
pub mod Registers
pub mod Steps
pub mod Runs
pub mod Kept
