pub mod Subterms
pub mod Orders
pub mod Walks
pub mod Sorted
