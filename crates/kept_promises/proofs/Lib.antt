pub mod Each
pub mod Ids
pub mod Steps
pub mod Touching
