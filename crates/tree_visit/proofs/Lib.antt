pub mod Cases
pub mod Parts
pub mod Classes
pub mod Caps
