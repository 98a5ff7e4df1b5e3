use Rattle.std.proofs.Common.{◌≡◌, ◌++◌, drop, length}
use Rattle.elim_core.specs.Elimination.{started_from}
use Rattle.elim_core.proofs.starts.start_from.Given as goal

abbrev pub invariant-loop-i : goal.invariant-loop-i
invariant-loop-i g l = l.rows.items ++ started_from (length l.system.rows) l.i (drop l.i l.system.rows) ≡ l.initial.rows.items ++ started_from (length l.system.rows) l.first (drop l.first l.system.rows)
