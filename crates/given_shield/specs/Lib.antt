pub mod Names
pub mod Shield
