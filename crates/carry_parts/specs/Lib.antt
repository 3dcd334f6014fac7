pub mod Carries
pub mod Reads
