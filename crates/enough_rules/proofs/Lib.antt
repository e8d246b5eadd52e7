pub mod Groups
pub mod Found
pub mod Joined
