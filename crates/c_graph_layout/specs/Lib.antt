pub mod Counts
pub mod Exits
pub mod Lists
