pub mod Shared
pub mod Sorts
pub mod Graphs
pub mod Seen
