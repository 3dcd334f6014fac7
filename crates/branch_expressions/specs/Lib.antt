pub mod Left
pub mod Choices
pub mod Properties
