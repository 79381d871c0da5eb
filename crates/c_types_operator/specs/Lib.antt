pub mod Gives
pub mod Operands
pub mod Conversions
pub mod ByOuter
pub mod Arms
pub mod Casts
pub mod Classes
pub mod Members
