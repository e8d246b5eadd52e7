pub mod Copies
pub mod RootAlone
pub mod Formatted
