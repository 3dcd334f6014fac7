pub mod Goers
pub mod Frames
pub mod Layers
pub mod Walked
