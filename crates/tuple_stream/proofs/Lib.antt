pub mod Beside
pub mod Chains
pub mod Sinces
pub mod BuildingQuiet
pub mod PinsFirst
mod ReadingEvents
mod Told
pub mod Chosen
mod Filling
mod LastPage
mod NewPage
mod NewReady
mod NewRows
mod NewTouches
mod OpenPages
mod Packing
pub mod PageLists
mod Pinned
mod Pinning
mod Resting
mod RowBytes
mod RowLists
mod RowsOn
mod Sums
mod Turned
mod Writing
mod WrittenPlaces
mod WrittenStream
pub mod Going
pub mod Empty
pub mod Built
mod RestedPage
mod PinnedPage
mod NewOne
mod Readying
mod Placed
pub mod ReadRow
pub mod ReadAll
mod FewPages
mod Starts
mod Endings
mod Emptied
mod Spends
mod SpentRows
pub mod Frames
pub mod Ends
pub mod OnePlace
mod FamilyBeside
pub mod FamilyStep
pub mod FamilyChains
pub mod FamilyWords
pub mod FamilyHolds
pub mod FamilyRooms
pub mod FamilyKept
mod FamilyLawsHold
