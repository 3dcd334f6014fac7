pub mod Rules
pub mod Replaced
