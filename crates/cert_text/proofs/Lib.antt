pub mod Groups
pub mod Additions
pub mod Inverses
pub mod Texts
pub mod Spellings
pub mod Prefixes
