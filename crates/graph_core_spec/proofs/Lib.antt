pub mod Runs
pub mod Walks
pub mod Sorts
pub mod Callees
