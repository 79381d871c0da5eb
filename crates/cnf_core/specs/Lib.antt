pub mod Codes
pub mod Laid
pub mod Listed
pub mod Bits
