pub mod ShakeLaw
pub mod Made
pub mod Entering
pub mod Copied
pub mod Rounds
