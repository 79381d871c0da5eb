pub mod Readers
pub mod Parts
pub mod Heads
pub mod Lines
pub mod Exactness
pub mod Going
