pub mod Sameness
pub mod Choices
pub mod Rows
