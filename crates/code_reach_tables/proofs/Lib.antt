pub mod Same
pub mod Growth
pub mod Trees
pub mod Values
pub mod Past
pub mod Tabled
pub mod Searched
