pub mod Wrapped
pub mod Sizes
pub mod Outers
pub mod Members
pub mod Pointed
