pub mod Tables
pub mod Pieces
pub mod Refused
