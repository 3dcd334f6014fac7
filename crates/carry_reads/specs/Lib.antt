pub mod Declarations
pub mod Fronts
pub mod Initials
pub mod Settles
pub mod Values
pub mod States
pub mod Walks
pub mod Readings
