pub mod Fields
mod KeyParts
mod Lengths
pub mod Numbers
pub mod PathNumber
pub mod ReadBack
pub mod SpelledBack
mod Turned
