pub mod Cuts
pub mod Frames
pub mod Proofs
pub mod Scope
