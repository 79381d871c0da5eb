pub mod Junctions
pub mod Conditions
pub mod Passages
pub mod Runs
pub mod Samples
