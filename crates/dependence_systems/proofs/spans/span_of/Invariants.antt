use Rattle.std.proofs.Common.{take}
use Rattle.dependence_systems.specs.Spans.{Covers}
use Rattle.dependence_systems.proofs.spans.span_of.Given as goal

abbrev pub invariant-loop-k : goal.invariant-loop-k
invariant-loop-k l = Covers l.span (take l.k l.accesses)
