pub mod Together
pub mod Starts
pub mod Valid
pub mod OfUnits
pub mod Samples
pub mod Keeps
