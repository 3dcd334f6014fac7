pub mod Knowledge
pub mod Lists
pub mod Left
pub mod Objects
pub mod Values
pub mod Assignments
