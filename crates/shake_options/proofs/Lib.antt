pub mod Counts
pub mod Lasts
pub mod Notices
pub mod Words
