-- the laws of verdicts
mod Texts
mod Sources
mod Exists
mod Firsts
mod Codes
mod Pairings
mod Shown
mod Once
pub mod Alike
mod Steps
mod Written
