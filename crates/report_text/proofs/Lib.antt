pub mod Texts
pub mod ShowTexts
