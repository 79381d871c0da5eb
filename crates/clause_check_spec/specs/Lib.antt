pub mod Clause
pub mod Step
pub mod Log
