pub mod Dealt
pub mod PinsUndone
