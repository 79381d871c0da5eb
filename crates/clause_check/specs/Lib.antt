pub mod Signs
pub mod Stamps
pub mod Logged
pub mod Kept
pub mod Answers
