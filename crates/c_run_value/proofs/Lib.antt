pub mod Steps
pub mod Bits
pub mod Lookups
pub mod Addresses
pub mod Entries
