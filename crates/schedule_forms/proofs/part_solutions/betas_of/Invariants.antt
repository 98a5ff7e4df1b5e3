use Rattle.std.proofs.Common.{◌≡◌, ◌+◌, ◌-◌, ◌++◌, length}
use Rattle.std.specs.Prelude.{All}
use Rattle.scop_data.specs.SolvedRows.{HasSizes, PairsFit}
use Rattle.schedule_forms.specs.SolvedForm.{betas_from}
use Rattle.schedule_forms.proofs.part_solutions.betas_of.Given as goal

abbrev pub invariant-loop-k : goal.invariant-loop-k
invariant-loop-k l = record {
  all : l.made ++ betas_from l.part l.k (l.n - l.k) ≡ betas_from l.part 0 l.n;
  count : length l.made ≡ l.k;
}
