pub mod Found
pub mod Logs
pub mod Written
pub mod Trails
