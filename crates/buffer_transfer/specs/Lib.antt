pub mod Buffers
pub mod Rows
