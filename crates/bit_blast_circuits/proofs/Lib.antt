pub mod Built
mod Steps
mod Stages
mod Calls
