pub mod Values
pub mod Arrays
pub mod Parts
pub mod Rows
