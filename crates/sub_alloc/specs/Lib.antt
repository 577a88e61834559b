pub mod Pieces
pub mod Tiling
pub mod Rules
pub mod Lending
pub mod Calls
pub mod Staying
