pub mod Monomials
pub mod Views
pub mod Arguments
pub mod Bits
pub mod Plans
pub mod Tables
pub mod Pairs
pub mod Sides
