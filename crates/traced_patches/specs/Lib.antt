pub mod Labels
pub mod Reasons
pub mod Traced
