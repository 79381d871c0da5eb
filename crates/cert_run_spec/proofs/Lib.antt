mod Rising
pub mod Listing
pub mod Apart
mod RuleTerms
mod OnePoint
mod Steps
mod RuleSteps
pub mod Once
mod Sides
mod Words
pub mod Valid
pub mod Logged
pub mod FileWords
