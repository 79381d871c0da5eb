pub mod Ids
pub mod Walk
pub mod Back
