pub mod Order
pub mod Sorts
