pub mod Behind
pub mod Steps
pub mod Shown
pub mod Quotas
