pub mod JsonText
pub mod Parsing
pub mod Answers
pub mod Joins
pub mod Written
pub mod Quick
