pub mod InBatches
