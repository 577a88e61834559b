pub mod Changes
pub mod Trackers
pub mod Kept
pub mod Rows
pub mod Failures
pub mod Found
pub mod Counts
