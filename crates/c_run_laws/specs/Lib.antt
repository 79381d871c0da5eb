pub mod Samples
pub mod Statements
pub mod Depth
pub mod Typing
