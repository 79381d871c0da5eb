pub mod Verdict
pub mod Words
pub mod Report
