pub mod Expression
pub mod Unit
