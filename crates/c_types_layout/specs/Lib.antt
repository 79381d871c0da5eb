pub mod Extents
pub mod Types
pub mod Structs
pub mod Comparison
