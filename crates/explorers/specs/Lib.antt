pub mod Claims
pub mod Entries
pub mod RecentlySeen
pub mod Primes
pub mod Ready
pub mod Shares
pub mod Tasks
