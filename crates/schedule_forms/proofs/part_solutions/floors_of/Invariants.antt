use Rattle.std.proofs.Common.{◌≡◌, ◌+◌, ◌-◌, ◌++◌, length}
use Rattle.std.specs.Prelude.{All}
use Rattle.scop_data.specs.SolvedRows.{HasSizes, PairsFit}
use Rattle.schedule_forms.specs.SolvedForm.{floors_from}
use Rattle.schedule_forms.proofs.part_solutions.floors_of.Given as goal

abbrev pub invariant-loop-k : goal.invariant-loop-k
invariant-loop-k l = record {
  all : l.made ++ floors_from l.part l.k (l.n - l.k) ≡ floors_from l.part 0 l.n;
  sizes : All (λ floor. HasSizes l.part.shape.inputs l.part.shape.locals l.part.shape.parameters floor.value) l.made;
  pairs : PairsFit l.made;
  count : length l.made ≡ l.k;
}
