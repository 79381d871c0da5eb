pub mod Readings
pub mod Feeds
pub mod Steps
