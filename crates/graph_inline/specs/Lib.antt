pub mod Taken
pub mod Marks
pub mod Moved
pub mod Outcome
pub mod Filled
