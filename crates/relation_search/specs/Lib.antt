pub mod Greatest
pub mod Answers
