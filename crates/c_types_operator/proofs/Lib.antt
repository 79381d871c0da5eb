pub mod Outers
pub mod Conversions
pub mod ByOuter
pub mod Choices
pub mod Classes
pub mod Members
