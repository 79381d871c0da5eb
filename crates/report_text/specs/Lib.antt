pub mod Judgements
pub mod Verdicts
pub mod Shown
