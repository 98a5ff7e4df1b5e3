pub mod Taken
pub mod AffineSums
pub mod RowLists
pub mod Orders
pub mod Reordering
pub mod Memories
pub mod Floors
pub mod Stamps
pub mod RunLaws
pub mod Members
pub mod IntTests
pub mod LevelOrder
pub mod Sorting
pub mod MappedLists
pub mod RunOrders
pub mod DenseOrders
pub mod DenseRuns
pub mod MappedRuns
pub mod AlikeRuns
mod LayoutChecks
mod LevelChecks
pub mod LineWords
