-- laws of runs that proofs above cite
pub mod Runs
