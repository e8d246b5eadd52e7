pub mod Counting
pub mod Runs
