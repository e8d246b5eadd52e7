pub mod MoreClosed
pub mod Counted
