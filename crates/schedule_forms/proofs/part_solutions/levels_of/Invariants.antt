use Rattle.std.proofs.Common.{◌≡◌, ◌+◌, ◌-◌, ◌++◌, length}
use Rattle.std.specs.Prelude.{All}
use Rattle.scop_data.specs.SolvedRows.{HasSizes, PairsFit}
use Rattle.schedule_forms.specs.SolvedForm.{levels_from}
use Rattle.schedule_forms.proofs.part_solutions.levels_of.Given as goal

abbrev pub invariant-loop-k : goal.invariant-loop-k
invariant-loop-k l = record {
  all : l.made ++ levels_from l.part l.k (l.n - l.k) ≡ levels_from l.part 0 l.n;
  sizes : All (HasSizes l.part.shape.inputs l.part.shape.locals l.part.shape.parameters) l.made;
  count : length l.made ≡ l.k;
}
