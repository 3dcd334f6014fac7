pub mod Resting
pub mod Lists
pub mod Settling
