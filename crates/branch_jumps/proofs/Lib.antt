pub mod Expressions
pub mod Nodes
