pub mod Sound
pub mod Rest
pub mod Begun
pub mod False
