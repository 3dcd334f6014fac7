pub mod Held
pub mod Rests
pub mod Trees
pub mod Cleared
