pub mod TransitionSystem
pub mod Simulation
pub mod Graph
pub mod Run
pub mod Sorts
pub mod Variables
pub mod Fixed
