pub mod Indexed
pub mod FrameFacts
pub mod Made
mod Locals
mod Opened
mod Framed
pub mod AtEntry
