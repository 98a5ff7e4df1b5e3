use Rattle.std.proofs.Common.{◌≡◌, length}
use Rattle.suite_bench.proofs.file_times.push_copy.Given as goal

abbrev pub invariant-loop-k : goal.invariant-loop-k
invariant-loop-k l = length l.entries.items ≡ l.k
