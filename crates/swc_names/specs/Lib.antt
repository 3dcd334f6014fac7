pub mod Ids
pub mod Names
