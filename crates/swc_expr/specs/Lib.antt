pub mod Simplifies
pub mod Simplified
