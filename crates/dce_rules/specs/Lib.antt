pub mod Uses
pub mod Apart
pub mod Left
pub mod Shakes
