mod Forms
mod Pushes
mod Places
pub mod Founds
pub mod Ranges
mod Numbers
mod Values
