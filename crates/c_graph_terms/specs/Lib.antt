pub mod Tables
pub mod Built
pub mod Tests
pub mod Accesses
pub mod Scenes
