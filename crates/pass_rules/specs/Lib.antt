pub mod Values
pub mod Leaves
pub mod Defaults
