-- Handed on from schedule_forms.
pub use Rattle.schedule_forms.specs.SolvedLaws.{ScheduleReadsBack, AccessReadsBack, ScatteringIsSolved, AccessIsSolved, SolvedScheduleMeansItsRelation, FloorRowsMeanFloors, cell_list, SolvedAccessMeansItsRelation}
pub use Rattle.scop_core.specs.ReadBack.{StatementsAreSolved, PiecesReadBack}
