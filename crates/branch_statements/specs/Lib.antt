pub mod Arms
pub mod Shapes
