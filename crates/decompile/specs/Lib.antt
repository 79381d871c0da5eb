pub mod Answer
pub mod Items
pub mod Counts
pub mod Settings
pub mod Callees
pub mod Errors
pub mod Built
pub mod Tables
