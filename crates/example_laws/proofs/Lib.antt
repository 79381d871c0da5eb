pub mod ClaimBytes
pub mod ClaimFile
pub mod ClaimStack
pub mod ClaimCall
pub mod GraphComputes
pub mod GraphLoops
pub mod GraphCountdown
pub mod CodeGraphComputes
mod ClauseComputes
pub mod FaultsWorked
pub mod CodeWorked
mod Lexed
mod SumRead
mod InitialsRead
