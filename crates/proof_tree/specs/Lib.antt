pub mod Ahead
pub mod Frames
pub mod Proofs
pub mod Scope
