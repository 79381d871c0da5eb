pub mod Fronts
pub mod Digits
pub mod Comments
pub mod Marks
pub mod Steps
pub mod Unique
