use Rattle.std.proofs.Common.{◌≡◌, length}
use Rattle.suite_bench.proofs.rows.push.Given as goal

abbrev pub invariant-loop-k : goal.invariant-loop-k
invariant-loop-k l = length l.row.items ≡ l.k
