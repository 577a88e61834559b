pub mod Copies
pub mod Pieces
pub mod Powers
pub mod Walks
pub mod Fronts
