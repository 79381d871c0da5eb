pub mod Cells
pub mod Coded
pub mod Effects
pub mod Runs
pub mod Stores
