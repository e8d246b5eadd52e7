pub mod Enough
pub mod Asked
