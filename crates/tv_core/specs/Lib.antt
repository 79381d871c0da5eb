pub mod Tasks
pub mod Functions
pub mod Objects
pub mod Decisions
pub mod Ends
pub mod Cores
pub mod Files
pub mod Listed
