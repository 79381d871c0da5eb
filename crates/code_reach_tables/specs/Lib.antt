pub mod Nodes
pub mod Followed
pub mod Tables
