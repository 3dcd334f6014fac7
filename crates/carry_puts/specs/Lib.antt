pub mod Placed
pub mod Values
