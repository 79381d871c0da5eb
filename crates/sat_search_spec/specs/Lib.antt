pub mod Clauses
pub mod Chain
pub mod Logs
pub mod Trail
pub mod Watches
pub mod Analysis
pub mod Trimming
