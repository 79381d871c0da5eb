pub mod Search
pub mod Stages
