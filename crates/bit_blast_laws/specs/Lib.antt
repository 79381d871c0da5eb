pub mod Meaning
pub mod Shows
pub mod Reads
pub mod Named
pub mod Back
pub mod Held
pub mod FoldedExamples
