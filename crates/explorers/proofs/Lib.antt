pub mod Counting
pub mod Divisors
pub mod Entries
pub mod Meeting
pub mod Overfilling
pub mod Sharing
pub mod Successors
