pub mod Taking
pub mod Closing
pub mod Marked
pub mod Moving
pub mod Placing
pub mod Inputs
pub mod Tables
pub mod Filling
