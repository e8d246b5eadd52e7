pub mod Tallies
pub mod Tries
pub mod Listed
pub mod Passing
pub mod Asked
