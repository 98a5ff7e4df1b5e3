use Rattle.std.proofs.Common.{◌≡◌, ◌+◌, ◌-◌, ◌++◌}
use Rattle.schedule_forms.specs.SolvedForm.{each_below, has_output}
use Rattle.schedule_forms.proofs.part_solutions.has_outputs.Given as goal

abbrev pub invariant-loop-k : goal.invariant-loop-k
invariant-loop-k l = l.good ≡ each_below (has_output l.part) l.k
