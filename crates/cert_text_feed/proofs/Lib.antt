pub mod Endings
pub mod Reading
pub mod Going
pub mod Stacks
pub mod LineEnds
