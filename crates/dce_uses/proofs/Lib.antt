pub mod Extending
pub mod Adding
mod Tallies
mod Counting
mod Numbering
mod Retaining
mod Searches
mod Seeing
mod Plain
mod Lists
mod Telling
mod Told
mod Items
mod Rows
pub mod Saying
mod Unexported
pub mod Leaving
