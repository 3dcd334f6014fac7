pub mod Looks
pub mod Shields
pub mod Resting
pub mod Turning
pub mod Depths
pub mod Replacing
pub mod Becoming
pub mod RemoveLaw
