pub mod Listing
pub mod Threads
