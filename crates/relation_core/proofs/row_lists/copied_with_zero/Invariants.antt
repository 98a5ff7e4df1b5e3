use Rattle.std.proofs.Common.{◌≡◌, ◌++◌, drop}
use Rattle.std.specs.Prelude.{map}
use Rattle.relation_core.specs.Systems.{with_zero}
use Rattle.relation_core.proofs.row_lists.copied_with_zero.Given as goal

abbrev pub invariant-loop-i : goal.invariant-loop-i
invariant-loop-i l = l.made.items ++ map (with_zero l.k) (drop l.i l.rows) ≡ map (with_zero l.k) l.rows
