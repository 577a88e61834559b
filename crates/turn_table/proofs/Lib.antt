pub mod Sums
pub mod Authors
pub mod Knowing
pub mod Trails
pub mod Counts
pub mod Keeps
pub mod Calls
pub mod Own
