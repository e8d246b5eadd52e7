pub mod Changes
pub mod Layout
pub mod Lists
pub mod Lives
pub mod Plays
pub mod Readings
pub mod Rule
pub mod Views
