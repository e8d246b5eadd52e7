pub mod Counts
pub mod Reach
pub mod Walks
