pub mod Slots
pub mod Answers
pub mod Walking
pub mod Made
pub mod Nesting
