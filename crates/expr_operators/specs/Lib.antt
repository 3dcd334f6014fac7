pub mod Nodes
pub mod Literals
pub mod Names
pub mod Steps
