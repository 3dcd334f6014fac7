pub mod Exports
pub mod Made
