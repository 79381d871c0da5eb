pub mod Members
pub mod Later
pub mod Folds
pub mod TwoMaps
pub mod Parts
pub mod Bounds
pub mod Listed
