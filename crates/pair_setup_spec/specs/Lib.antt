pub mod SourceReach
pub mod Faults
pub mod Code
pub mod Nodes
pub mod Outcome
