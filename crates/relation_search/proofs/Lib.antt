pub mod Members
pub mod Narrowing
