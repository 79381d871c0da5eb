pub mod Naming
pub mod Inlined
pub mod Inlining
pub mod Kept
pub mod Samples
pub mod Beside
