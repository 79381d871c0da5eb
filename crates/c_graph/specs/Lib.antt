pub mod Frames
pub mod Emitted
pub mod Bound
pub mod Laid
pub mod Seen
