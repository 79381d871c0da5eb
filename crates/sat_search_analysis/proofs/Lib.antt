pub mod Marked
pub mod Trimmed
mod Markings
mod Explanations
