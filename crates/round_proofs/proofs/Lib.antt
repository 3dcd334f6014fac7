pub mod Sublists
pub mod Tidy
pub mod Shaped
pub mod Rounds
