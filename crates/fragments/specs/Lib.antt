pub mod Balance
pub mod Causes
pub mod Dealing
pub mod Fragments
pub mod Places
pub mod Rows
pub mod Running
