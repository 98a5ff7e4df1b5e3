use Rattle.std.proofs.Common.{◌≡◌, ◌++◌, drop}
use Rattle.relation_core.proofs.row_lists.copied.Given as goal

abbrev pub invariant-loop-row : goal.invariant-loop-row
invariant-loop-row l = l.made.items ++ drop l.row-index l.rows ≡ l.rows
