pub mod Templates
pub mod Facts
pub mod Samples
