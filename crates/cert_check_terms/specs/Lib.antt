pub mod Operators
pub mod Variables
pub mod Reading
pub mod Views
pub mod Outcomes
