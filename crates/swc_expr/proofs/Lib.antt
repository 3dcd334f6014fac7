pub mod Resting
pub mod Folded
pub mod Shields
pub mod Statements
pub mod SimplifyLaw
