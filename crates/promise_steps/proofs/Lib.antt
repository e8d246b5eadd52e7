pub mod Finished
pub mod Whole
