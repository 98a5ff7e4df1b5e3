use Rattle.elim_core.specs.Reductions.{BeginsWith}
use Rattle.suite_bench.proofs.file_times.followed.Given as goal

abbrev pub invariant-loop-k : goal.invariant-loop-k
invariant-loop-k l = BeginsWith l.made l.base
