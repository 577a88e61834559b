pub mod Bodies
pub mod Columns
pub mod Skipping
