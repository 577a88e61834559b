pub mod Bags
pub mod Balancing
pub mod Dealt
pub mod Gathering
pub mod Taking
pub mod Stopping
