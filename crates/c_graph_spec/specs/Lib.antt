pub mod State
pub mod Values
pub mod Sizes
pub mod Guards
pub mod Layout
pub mod SourceGraph
