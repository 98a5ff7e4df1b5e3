use Rattle.std.proofs.Common.{◌+◌, ◌-◌, ◌≤◌, length}
use Rattle.suite_base.specs.Limits.{max_input}
use Rattle.suite_base.specs.Outside.{Took}
use Rattle.suite_base.proofs.reading.read_all.Given as goal

abbrev pub invariant-loop-source : goal.invariant-loop-source
invariant-loop-source g l = record {
  within : length l.text ≤ max_input + 1;
  took : Took (g.S.Source.left l.fn.source) l.text (g.S.Source.left l.source);
  grows : g.S.Source.faults l.fn.source ≤ g.S.Source.faults l.source;
}

abbrev pub decreases-loop-source : goal.decreases-loop-source
decreases-loop-source g l = max_input + 1 - length l.text
