pub mod Apart
pub mod Weights
pub mod Tests
pub mod WhileSteps
pub mod ForSteps
pub mod OnceSteps
pub mod WithinSteps
