pub mod Outcomes
pub mod Searches
pub mod Runs
pub mod Sides
pub mod Placed
pub mod Sources
pub mod Entries
