pub mod Outcomes
pub mod PartOutcomes
pub mod Terms
pub mod Views
pub mod Keywords
pub mod LineOutcomes
