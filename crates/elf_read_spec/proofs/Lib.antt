-- laws of files and images that proofs above cite
pub mod Functions
pub mod Runs
pub mod Verdicts
