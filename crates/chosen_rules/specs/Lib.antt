pub mod Excluded
pub mod Sublists
pub mod ExcludedBy
