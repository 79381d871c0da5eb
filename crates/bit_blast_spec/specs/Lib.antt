pub mod Gates
pub mod Circuits
pub mod Goal
pub mod Folding
pub mod FoldedGoal
