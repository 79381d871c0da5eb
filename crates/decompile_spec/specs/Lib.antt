pub mod State
pub mod InstructionTerms
pub mod Blocks
pub mod CodeGraph
