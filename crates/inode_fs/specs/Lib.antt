pub mod Demanding
pub mod Inside
