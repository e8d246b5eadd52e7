pub mod TableCounts
pub mod Passed
pub mod References
pub mod Strict
pub mod Compared
pub mod Counted
pub mod Broken
