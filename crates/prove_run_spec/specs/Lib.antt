pub mod Proofs
pub mod Trails
pub mod Written
