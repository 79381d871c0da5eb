pub mod Code
pub mod FaultAt
pub mod Faults
pub mod RunUp
