pub mod Unfolding
pub mod Runs
pub mod Frames
