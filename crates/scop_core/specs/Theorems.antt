-- Handed on from scop_data.
pub use Rattle.scop_data.specs.Theorems.{IsStatement, HasValidSchedules, FloorIsGreatest, BeforeIsTransitive, BeforeIsIrreflexive, StampsAreOrdered, StatementsAreOrdered, RunIsUnique, StepsCommute, ReorderingKeepsMemory, RunHasNoTies, KeepsConflicts, KeptConflictsKeepMemory}
