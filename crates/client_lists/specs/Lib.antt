pub mod Clients
pub mod Inside
