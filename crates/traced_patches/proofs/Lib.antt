pub mod Labelled
pub mod ReasonTexts
pub mod Explained
pub mod ForcedBefore
