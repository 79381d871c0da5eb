pub mod Memory
pub mod Values
pub mod Trees
pub mod Assignment
