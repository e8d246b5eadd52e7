pub mod Closures
pub mod Families
pub mod Widening
pub mod Firsts
pub mod Properties
