pub mod Fixed
pub mod Patterns
pub mod Normal
pub mod Examples
