pub mod Doing
pub mod Flags
pub mod Refusals
pub mod Running
