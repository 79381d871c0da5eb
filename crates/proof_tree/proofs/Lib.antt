pub mod Ahead
mod Nested
mod Somewhere
mod Lines
