pub mod Keys
pub mod Sets
