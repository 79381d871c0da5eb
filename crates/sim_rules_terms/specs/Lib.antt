pub mod Which
pub mod Both
pub mod Openings
pub mod Ways
pub mod Seen
pub mod Conventions
pub mod Lines
pub mod Held
