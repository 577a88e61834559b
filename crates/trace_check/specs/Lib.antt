pub mod Names
pub mod Numbers
pub mod Events
pub mod Lines
pub mod Reading
pub mod Seen
pub mod Verdicts
pub mod Underway
