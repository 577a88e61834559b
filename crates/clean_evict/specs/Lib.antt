pub mod Cleans
pub mod Eviction
pub mod Inside
