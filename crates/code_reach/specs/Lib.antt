pub mod Flows
pub mod Growth
pub mod Found
pub mod Listing
pub mod Surveys
pub mod Stacks
