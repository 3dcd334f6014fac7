pub mod Sizes
pub mod Names
pub mod Inside
pub mod Cases
