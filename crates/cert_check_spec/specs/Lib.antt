pub mod Terms
pub mod Verdict
