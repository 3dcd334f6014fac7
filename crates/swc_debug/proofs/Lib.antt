pub mod Last
pub mod Lengths
pub mod Whole
