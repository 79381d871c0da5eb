pub mod Expressions
pub mod Widths
pub mod Actions
pub mod Counted
