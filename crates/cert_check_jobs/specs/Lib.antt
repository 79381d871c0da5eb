pub mod Cuts
pub mod Extras
pub mod Frames
pub mod Drafts
pub mod Jobs
pub mod Goals
pub mod Points
