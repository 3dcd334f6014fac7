pub mod Simplifier
pub mod Optimizer
pub mod Laws
pub mod RoundLaws
pub mod Turns
