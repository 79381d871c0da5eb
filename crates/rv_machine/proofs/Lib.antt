pub mod Bytes
pub mod Cells
pub mod Executed
pub mod Steps
pub mod Stored
