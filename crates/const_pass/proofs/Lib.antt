pub mod Expressions
pub mod Forms
pub mod Found
pub mod Walked
pub mod Answered
pub mod Scripts
