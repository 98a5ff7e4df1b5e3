use Rattle.std.proofs.Common.{◌≡◌, ◌++◌, drop, map}
use Rattle.elim_core.specs.Reductions.{widened}
use Rattle.elim_core.proofs.reductions.widen.Given as goal

abbrev pub invariant-loop-w : goal.invariant-loop-w
invariant-loop-w g l = l.made.items ++ map (widened l.count) (drop l.w-index l.rows) ≡ map (widened l.count) l.rows
