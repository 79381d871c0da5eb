pub mod Sorts
pub mod Words
pub mod Soundness
pub mod Variables
pub mod Same
pub mod Subterms
pub mod Substitution
