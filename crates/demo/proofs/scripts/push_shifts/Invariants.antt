use Rattle.std.proofs.Common.{◌≡◌, ◌++◌, map}
use Rattle.std.specs.List.{range_with_len}
use Rattle.demo.specs.Inputs as spec
use Rattle.demo.proofs.scripts.push_shifts.Given as goal

abbrev pub invariant-loop-k : goal.invariant-loop-k
invariant-loop-k l = l.script ≡ l.fn.script ++ map spec.shift_of (range_with_len 1 l.k)
