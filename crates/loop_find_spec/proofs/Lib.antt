pub mod Walked
pub mod Turning
