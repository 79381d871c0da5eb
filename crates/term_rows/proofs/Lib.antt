mod States
pub mod Taking
pub mod Sorted
