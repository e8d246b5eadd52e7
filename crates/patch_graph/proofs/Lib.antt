pub mod Ahead
pub mod Independent
pub mod Fronts
pub mod Homes
pub mod Leads
pub mod Patches
pub mod Rest
pub mod Steps
