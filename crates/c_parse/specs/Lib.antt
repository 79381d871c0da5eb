pub mod Following
pub mod Refused
pub mod Places
pub mod Pieces
pub mod Runs
