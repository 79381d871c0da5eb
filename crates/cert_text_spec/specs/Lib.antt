pub mod Derivation
pub mod Terms
pub mod Points
pub mod Lines
pub mod Certificates
