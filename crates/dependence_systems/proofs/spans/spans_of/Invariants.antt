use Rattle.std.proofs.Common.{take}
use Rattle.dependence_systems.specs.Spans.{CoverEach}
use Rattle.dependence_systems.proofs.spans.spans_of.Given as goal

abbrev pub invariant-loop-k : goal.invariant-loop-k
invariant-loop-k l = CoverEach l.spans (take l.k l.statements)
