pub mod Listed
pub mod OfSets
pub mod Asked
pub mod Trials
