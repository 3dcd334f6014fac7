pub mod Captured
pub mod Places
pub mod Views
