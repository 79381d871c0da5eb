pub mod Parts
pub mod Bits
pub mod Bytes
pub mod Listed
pub mod Calls
pub mod Stored
