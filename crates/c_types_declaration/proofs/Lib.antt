pub mod Capped
pub mod Outers
pub mod Signatures
