pub mod Blocks
pub mod Targets
pub mod Walk
pub mod Changed
