pub mod Settings
pub mod Gives
pub mod Scenes
