pub mod Ending
pub mod Owning
