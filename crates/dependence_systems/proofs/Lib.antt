pub mod ApartPairs
mod Checks
pub mod Differences
pub mod EntryFound
pub mod LevelCounts
pub mod LevelTests
pub mod NamedSides
pub mod Members
pub mod Pairs
pub mod Pushes
pub mod RowMeanings
pub mod ScopPairs
pub mod Segments
pub mod SpanLaws
pub mod SystemMeanings
pub mod SystemRows
pub mod OwnSystems
