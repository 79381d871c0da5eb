pub mod Added
pub mod Viewed
