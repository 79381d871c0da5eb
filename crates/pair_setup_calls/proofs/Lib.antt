mod Lists
pub mod Indices
mod Bodies
pub mod Sources
pub mod Declared
pub mod Growing
mod Extending
pub mod Cycles
mod Deepest
mod Complete
