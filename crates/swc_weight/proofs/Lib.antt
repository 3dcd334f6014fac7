pub mod Classes
pub mod Caps
