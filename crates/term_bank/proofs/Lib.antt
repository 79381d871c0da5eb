pub mod Growth
pub mod Same
pub mod Values
pub mod Subterms
pub mod Substitution
