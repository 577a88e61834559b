pub mod Rising
pub mod Changes
pub mod Steps
