pub mod Term
pub mod Sort
pub mod Value
pub mod Shapes
pub mod Same
pub mod Subterms
pub mod Substitution
pub mod Coded
