pub mod Arrays
pub mod Fronts
pub mod Objects
pub mod Members
