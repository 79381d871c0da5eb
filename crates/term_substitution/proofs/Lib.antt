pub mod Growing
pub mod Taking
mod Descending
