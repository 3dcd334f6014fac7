pub mod GivesNothing
pub mod Left
