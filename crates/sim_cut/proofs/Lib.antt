mod Passing
mod Meeting
pub mod Soundness
pub mod Over
mod PassedOver
mod EachGoal
