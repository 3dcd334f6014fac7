pub mod Clauses
pub mod Kept
pub mod Defaults
pub mod Sorts
pub mod Plans
pub mod Shed
pub mod Values
