mod Sizes
mod Blanks
mod Rising
mod Extents
mod Numbered
mod Decoded
mod Asked
mod Parts
mod Tabled
mod Added
mod Kept
pub mod Searched
mod Whole
mod Counted
mod Listed
mod Answered
mod Aligned
