pub mod Proper
pub mod Totals
pub mod Summed
pub mod Kept
pub mod Sums
pub mod Nodes
