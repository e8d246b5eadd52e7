pub mod Adding
pub mod EmittedInOrder
pub mod Emitting
pub mod Linking
pub mod Graphs
pub mod Grouping
pub mod Planning
pub mod ForcedIds
pub mod Steps
pub mod Making
pub mod WaitSteps
mod Relabelling
