pub mod FaultAt
pub mod First
pub mod RunUp
pub mod RunUpPlaces
