-- What private calls make of the parts of a pool. No public clause cites these.
pub mod Keeping
pub mod Changes
pub mod Leavings
pub mod Ended
pub mod Flights
pub mod Loads
pub mod Pinning
pub mod PinSteps
pub mod Ends
pub mod Rearranging
pub mod Seating
