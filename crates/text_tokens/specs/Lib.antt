pub mod Ends
pub mod Lines
pub mod Signs
pub mod Texts
pub mod Tokens
