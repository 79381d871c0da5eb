pub mod Arities
pub mod Names
pub mod Complete
pub mod Sound
pub mod Stacks
pub mod Arguments
pub mod Remaining
