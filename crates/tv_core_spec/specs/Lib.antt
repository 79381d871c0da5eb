pub mod Source
pub mod Listing
pub mod Decisions
pub mod Verdicts
pub mod Laws
