pub mod Told
pub mod Reads
pub mod Refusals
pub mod Keys
pub mod Prepared
pub mod Twice
pub mod Deep
pub mod Refused
