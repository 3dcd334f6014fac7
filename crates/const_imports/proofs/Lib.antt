pub mod Firsts
pub mod Grouped
pub mod Constants
pub mod Items
pub mod Resolved
pub mod Keeping
pub mod Unloading
