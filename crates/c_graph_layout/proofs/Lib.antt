pub mod Counted
pub mod Blocks
pub mod Begun
