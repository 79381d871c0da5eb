pub mod Members
pub mod Findings
pub mod Chains
pub mod Trails
pub mod Guards
pub mod Analyses
pub mod Logs
pub mod Trims
