use Rattle.std.proofs.Common.{◌≡◌, ◌+◌, ◌-◌, ◌++◌, length}
use Rattle.std.specs.Prelude.{All}
use Rattle.scop_data.specs.SolvedRows.{HasSizes, PairsFit}
use Rattle.schedule_forms.specs.SolvedForm.{values_from}
use Rattle.schedule_forms.proofs.part_solutions.subscripts_of.Given as goal

abbrev pub invariant-loop-k : goal.invariant-loop-k
invariant-loop-k l = record {
  all : l.made ++ values_from l.part (l.k + 1) (l.n - l.k) ≡ values_from l.part 1 l.n;
  sizes : All (HasSizes l.part.shape.inputs l.part.shape.locals l.part.shape.parameters) l.made;
  count : length l.made ≡ l.k;
}
