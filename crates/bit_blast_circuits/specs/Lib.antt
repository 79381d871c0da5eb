pub mod Built
pub mod Kinds
