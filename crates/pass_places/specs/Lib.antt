pub mod Places
pub mod Dropped
