pub mod Listed
pub mod Jobs
pub mod Parts
pub mod Facts
pub mod Scopes
pub mod Entries
pub mod Goals
