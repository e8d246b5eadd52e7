pub mod Closed
pub mod Tables
pub mod Whole
