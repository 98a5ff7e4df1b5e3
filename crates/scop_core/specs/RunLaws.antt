-- Handed on from scop_data.
pub use Rattle.scop_data.specs.RunLaws.{ListsInstances, HasNoTies, RunExists, PrecedesIsBefore, HaveSameEvents, SameEventsGiveOneMemory, SameEventsTouch, BeforeByLevels, BeforeIsAtALevel, OneVectorHasAllLoops, LoopsAreCommon, LevelsAreListed, EntriesOrder, LevelsByEntries, SchedulesOrderAtALevel, DenseKeepsOrder, DenseKeepsLevels, DenseVectorsAreTheirs, KeepsMeaning, SameRuns, KeptMeaningHasSameRuns, DenseKeepsMeaning, DenseKeepsRuns, DenseKeepsSchedulesValid}
