pub mod Base
pub mod Forcing
pub mod Log
pub mod Tracer
pub mod Transactions
