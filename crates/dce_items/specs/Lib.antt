pub mod Described
pub mod Gathered
pub mod Wrapped
pub mod Remaining
