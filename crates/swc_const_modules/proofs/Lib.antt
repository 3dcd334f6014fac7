pub mod Maps
pub mod Given
