use Rattle.elim_core.specs.Reductions.{BeginsWith}
use Rattle.suite_bench.proofs.nests.at_level.Given as goal

abbrev pub invariant-loop-d : goal.invariant-loop-d
invariant-loop-d l = BeginsWith l.system l.base
