pub mod Laws
pub mod Propagation
