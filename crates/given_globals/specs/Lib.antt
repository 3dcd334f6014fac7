pub mod Globals
pub mod Rows
