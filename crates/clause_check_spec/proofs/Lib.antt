pub mod Sound
pub mod Logs
