pub mod Shape
pub mod Visits
pub mod DepthFirst
pub mod Outcomes
pub mod EdgesInto
pub mod Listing
pub mod Order
