pub mod Faults
pub mod Reading
pub mod Writing
pub mod States
pub mod Given
pub mod Shelf
pub mod Plans
pub mod Contents
