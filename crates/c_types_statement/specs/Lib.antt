pub mod Labels
pub mod Choices
pub mod Groups
pub mod Switches
pub use Rattle.c_types_simple.specs.Contexts
