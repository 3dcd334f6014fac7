pub mod Members
pub mod Seen
