pub mod Lists
pub mod Knowledge
pub mod Rule
pub mod Steps
pub mod Face
