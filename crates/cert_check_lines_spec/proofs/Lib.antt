pub mod Members
pub mod Logs
pub mod Showing
pub mod Stepping
pub mod Accepting
pub mod Going
pub mod Refused
