pub mod First
pub mod Places
pub mod Plain
pub mod Tables
