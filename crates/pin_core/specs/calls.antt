-- What the clauses of public calls cite: conditions, entries, answers and errors.
pub mod Needs
pub mod Unpinning
pub mod Ending
pub mod Lending
pub mod Evictions
pub mod Jobs
pub mod Pins
pub mod Turns
pub mod Runs
pub mod PinTurns
pub mod Coming
pub mod Returning
pub mod Refusing
pub mod Sessions
pub mod Entering
pub mod Opening
pub mod Setup
