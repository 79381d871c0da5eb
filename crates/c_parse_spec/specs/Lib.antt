pub mod Limits
pub mod Leaves
pub mod Expressions
pub mod Statements
pub mod Units
pub mod Faults
pub mod Source
pub mod Initials
