pub mod Files
pub mod Verdict
pub mod Written
pub mod Laws
