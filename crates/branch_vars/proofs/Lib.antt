pub mod Gathered
pub mod Once
