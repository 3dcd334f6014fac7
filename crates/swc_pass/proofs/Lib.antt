pub mod Keeping
pub mod InFront
