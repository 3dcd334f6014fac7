pub mod Places
pub mod Removed
