mod Causes
mod CountPlan
mod OneInput
mod OnlyMemory
mod Showing
mod Pools
mod Stored
mod Alone
mod Closing
mod Solo
mod OneSession
mod Asks
mod Watching
mod CountStops
mod Plain
pub mod Walks
pub mod Verdicts
pub mod Counts
pub mod Places
pub mod Sides
pub mod Works
pub mod Answered
pub mod Stopped
pub mod Finished
pub mod Loops
pub mod Unanswered
mod Arrived
mod Departed
mod Waiting
mod Writing
mod Stays
mod Coming
mod Stepping
mod Sessions
mod Opened
mod Ready
mod Runs
mod Gathered
mod PlanClosed
pub mod Tops
pub mod Apart
pub mod Complete
pub mod Whole
pub mod Runnable
pub mod Ended
pub mod Made
pub mod Sided
pub mod Fitting
pub mod Phases
pub mod Lines
pub mod Plans
mod TableRead
mod TableRows
mod TableAccepted
mod CheckPlans
mod CheckClear
mod CheckEnds
mod CheckWords
mod Shared
mod SharedNames
mod SharedStops
mod SharedStored
mod Seating
mod Answering
mod AtGate
