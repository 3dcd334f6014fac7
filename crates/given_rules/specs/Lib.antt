pub mod Met
pub mod Put
pub mod Worked
pub mod Walk
pub mod Cycles
pub mod Givable
pub mod Formed
