pub mod Typed
pub mod Functions
pub mod Reached
