pub mod Names
pub mod Expressions
pub mod Simples
pub mod Locals
pub mod Statements
pub mod Units
