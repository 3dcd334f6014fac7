pub mod Flagged
pub mod Passes
pub mod Status
pub mod Done
