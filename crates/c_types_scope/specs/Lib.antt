pub mod Entries
pub mod Scopes
pub mod Meanings
pub mod States
