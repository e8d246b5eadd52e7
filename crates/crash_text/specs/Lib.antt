pub mod BaseRefusal
pub mod Lines
pub mod Searching
pub mod SearchingRules
pub mod Served
pub mod Status
pub mod Exploring
pub mod Traced
