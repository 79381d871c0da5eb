pub mod Frames
pub mod Tasks
pub mod Groups
pub mod Machines
pub mod Outcomes
pub mod Weights
