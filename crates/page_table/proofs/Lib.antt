pub mod Names
pub mod Entries
pub mod Changes
pub mod Found
pub mod Steps
pub mod Proper
