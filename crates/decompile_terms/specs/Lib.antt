pub mod Between
pub mod Built
