pub mod Shaken
pub mod Configured
pub mod Peeling
