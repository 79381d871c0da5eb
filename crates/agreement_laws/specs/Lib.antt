pub mod EntryFrame
pub mod Inner
pub mod Statements
pub mod Callers
