pub mod Pool
pub mod Rows
