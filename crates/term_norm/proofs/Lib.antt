pub mod Growth
pub mod Kept
pub mod Parts
pub mod Steps
pub mod Taken
pub mod Waits
