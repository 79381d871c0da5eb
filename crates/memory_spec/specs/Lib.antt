pub mod Memory
pub mod Zones
pub mod Runs
pub mod Viewed
