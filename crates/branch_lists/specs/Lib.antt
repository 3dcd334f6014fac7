pub mod Swept
pub mod Exports
pub mod Cuts
pub mod Tidy
pub mod Onto
