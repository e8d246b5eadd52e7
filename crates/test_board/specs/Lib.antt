pub mod Worker
