pub mod Noted
pub mod Listed
pub mod Exports
pub mod Tables
pub mod Items
pub mod Said
pub mod Sights
