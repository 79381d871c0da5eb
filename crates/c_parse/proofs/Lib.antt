mod Initials
mod BraceFuel
mod Named
mod Shorter
mod Listed
mod AllItems
mod Reported
mod Bodies
pub mod StatementFuel
pub mod Runs
pub mod Loops
pub mod Split
pub mod Chain
pub mod Made
