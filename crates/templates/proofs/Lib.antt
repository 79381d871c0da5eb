pub mod Growth
pub mod Once
pub mod Sums
