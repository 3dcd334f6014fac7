pub mod Rested
pub mod Tells
pub mod Turned
