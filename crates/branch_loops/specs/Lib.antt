pub mod Bodies
pub mod Runs
