-- Handed on from scop_data.
pub use Rattle.scop_data.specs.MappedRuns.{MapsInstances, IsReversed, MappedRunExists, NothingReversedKeepsMemory, bare, StatementsMeanAll, MeaningIsKeptOn}
