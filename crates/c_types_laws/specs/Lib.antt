pub mod Blocks
pub mod Samples
pub mod Statements
pub mod TypeSamples
pub mod TypeStatements
