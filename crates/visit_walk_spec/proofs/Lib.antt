pub mod Members
pub mod Walks
pub mod Images
pub mod Order
