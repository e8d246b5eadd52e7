pub mod Header
pub mod Walk
pub mod Changed
