pub mod Acts
pub mod Demands
pub mod FewWaits
pub mod OneGraph
pub mod Pieces
pub mod Readings
pub mod Scripts
