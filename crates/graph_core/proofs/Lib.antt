pub mod Each
pub mod Sorted
pub mod Growing
pub mod Storing
pub mod Adding
pub mod Seeing
