pub mod Seats
pub mod Sessions
