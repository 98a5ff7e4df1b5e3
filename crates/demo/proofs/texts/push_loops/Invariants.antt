use Rattle.std.proofs.Common.{◌≡◌, ◌++◌}
use Rattle.std.specs.List.{flat_map, range_with_len}
use Rattle.demo.specs.Inputs as spec
use Rattle.demo.proofs.texts.push_loops.Given as goal

abbrev pub invariant-loop-k : goal.invariant-loop-k
invariant-loop-k l = l.text ≡ l.fn.text ++ flat_map spec.loop_lines (range_with_len 0 l.k)
