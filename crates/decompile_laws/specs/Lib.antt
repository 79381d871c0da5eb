pub mod Evaluation
pub mod Together
pub mod Layout
pub mod RunUps
pub mod Valid
