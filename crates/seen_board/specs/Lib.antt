pub mod Clauses
pub mod Ended
pub mod Founds
pub mod Inserts
pub mod Known
pub mod Seats
