pub mod Flat
pub mod Assignments
pub mod Examples
