mod Samples
mod Checks
pub mod LevelLists
pub mod LeafLoops
pub mod SplitConditions
pub mod Clamps
pub mod Joins
pub mod Changeables
pub mod DraftMaps
pub mod Cuts
pub mod VectorMaps
pub mod Halves
pub mod SplitFacts
pub mod Prefixes
pub mod SoundForms
pub mod SoundCuts
pub mod SoundSplits
pub mod ScriptRuns
pub mod Closings
pub mod ClosedPieces
