pub mod Ways
pub mod Slots
