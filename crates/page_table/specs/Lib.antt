pub mod Pages
pub mod Slots
pub mod Rows
pub mod Codes
pub mod Lends
