use Rattle.std.proofs.Common.{◌≡◌, ◌+◌, ◌-◌, ◌++◌}
use Rattle.schedule_forms.specs.SolvedForm.{each_below, has_beta}
use Rattle.schedule_forms.proofs.part_solutions.has_constants.Given as goal

abbrev pub invariant-loop-k : goal.invariant-loop-k
invariant-loop-k l = l.good ≡ each_below (has_beta l.part) l.k
