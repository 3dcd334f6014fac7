pub mod Exporting
pub mod Making
pub mod Listing
