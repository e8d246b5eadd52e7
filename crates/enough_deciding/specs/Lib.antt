pub mod Rules
pub mod Lines
