pub mod Names
pub mod Graph
