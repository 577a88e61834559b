mod Pieces
mod ByName
mod FaultsByName
mod Lies
pub mod Stopping
