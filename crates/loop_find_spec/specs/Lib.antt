pub mod Loops
pub mod Cycles
pub mod Inlining
pub mod Choices
pub mod Shapes
pub mod Samples
