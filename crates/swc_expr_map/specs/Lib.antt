pub mod Codes
pub mod Order
pub mod Entries
pub mod Branches
pub mod Rows
pub mod Laws
