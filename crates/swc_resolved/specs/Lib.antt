pub mod Jumps
pub mod Names
pub mod Parts
pub mod Scopes
pub mod Exports
pub mod Once
pub mod Here
pub mod Asked
