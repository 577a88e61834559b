pub mod InBatches
pub mod Shared
