pub mod Exact
pub mod Rows
pub mod Settling
pub mod Peeled
pub mod Turns
pub mod Runs
