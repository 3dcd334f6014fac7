pub mod Locals
pub mod Faults
pub mod Views
