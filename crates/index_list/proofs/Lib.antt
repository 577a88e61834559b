pub mod Members
pub mod Chains
pub mod Entries
pub mod Tables
pub mod Writes
pub mod Shown
pub mod Calls
pub mod Places
