mod Steps
pub mod Ordered
mod Decoded
pub mod Shaped
mod Cases
mod Chains
mod Rising
mod Found
mod Placed
