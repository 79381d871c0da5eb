mod Ranges
mod Growing
mod Switches
mod Walks
mod Places
mod Listed
mod Firsts
pub mod Called
mod Visited
mod Surveyed
mod Overlaps
mod Reached
mod Deepest
mod Search
pub mod Acyclic
mod Shallow
