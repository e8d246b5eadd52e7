pub mod Beginnings
pub mod Firsts
pub mod Judging
pub mod Keeps
pub mod Pools
pub mod Traces
