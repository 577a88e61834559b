pub mod Checked
pub mod CheckedClients
pub mod CheckedIdle
pub mod CheckedOwner
