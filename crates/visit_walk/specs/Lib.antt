pub mod Search
pub mod Tables
pub mod Nodes
pub mod Listings
pub mod Found
