pub mod Accounts
pub mod Known
pub mod Together
pub mod Remaining
pub mod Steps
