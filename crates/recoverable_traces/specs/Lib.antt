pub mod FullJournal
