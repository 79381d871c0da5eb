pub mod Answers
pub mod Closers
