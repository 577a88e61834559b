pub mod Changed
pub mod First
pub mod Rounds
pub mod Fewest
pub mod Freed
pub mod Kept
pub mod Others
