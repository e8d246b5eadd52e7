pub mod Asking
pub mod Watched
