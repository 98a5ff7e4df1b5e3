mod Samples
mod Checks
pub mod MixedStamps
pub mod MixedSides
pub mod ReversedRows
pub mod ReversedCounts
pub mod ViolationMeanings
pub mod ReversedPairs
pub mod KeptMemories
pub mod ReadyEntries
pub mod Answered
pub mod ViolationRows
pub mod EmptyBases
pub mod FewLevels
pub mod ScriptEdits
