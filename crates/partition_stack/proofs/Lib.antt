pub mod ListPlaces
pub mod Stacking
pub mod Room
pub mod Agreeing
pub mod Owned
pub mod Scratch
pub mod Away
mod Resting
mod Called
pub mod Coming
pub mod Left
pub mod Sides
pub mod Nothing
pub mod First
pub mod Results
pub mod Making
pub mod Owing
pub mod SharedRows
pub mod Emitters
pub mod ReadFrames
pub mod Slots
pub mod Weights
pub mod PagesOnce
pub mod Rooms
