pub mod Desks
pub mod Stored
mod Plain
mod HandedOut
mod Judging
mod Aligned
mod FilesRead
mod Ending
mod Naming
mod Paired
mod Shown
mod Judged
mod Made
mod Lists
