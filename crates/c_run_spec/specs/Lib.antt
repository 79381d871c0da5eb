pub mod Setting
pub mod Accesses
pub mod Evaluation
pub mod Execution
pub mod Calls
