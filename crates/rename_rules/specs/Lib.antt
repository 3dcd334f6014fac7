pub mod Renamed
pub mod Tables
pub mod Opened
