pub mod Arithmetic
pub mod Machine
pub mod Step
