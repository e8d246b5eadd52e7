pub mod SmallerGroups
pub mod Tracings
pub mod WaitingLines
