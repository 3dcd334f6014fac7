pub mod Shapes
pub mod Items
pub mod Exported
pub mod Going
pub mod Onto
pub mod Turns
pub mod Lists
