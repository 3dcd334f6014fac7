pub mod Carry
pub mod Parted
pub mod Late
pub mod Voids
