pub mod Source
pub mod Convention
pub mod Claim
