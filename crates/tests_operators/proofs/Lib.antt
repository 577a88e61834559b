pub mod Groupings
pub mod Clients
