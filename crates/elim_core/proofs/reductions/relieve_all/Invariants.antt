use Rattle.std.proofs.Common.{◌≡◌, ◌++◌, length}
use Rattle.elim_core.specs.Reductions.{Reduces}
use Rattle.elim_core.specs.RowLists.{AllRows, Wide}
use Rattle.elim_core.proofs.reductions.relieve_all.Given as goal

abbrev pub invariant-loop-e : goal.invariant-loop-e
invariant-loop-e g l = record {
  reduces : Reduces l.fn.tableau.variables l.fn.tableau.rows (l.done.items ++ l.rest.rows);
  variables : l.rest.variables ≡ l.fn.tableau.variables;
  width : l.rest.width ≡ l.fn.tableau.width;
  wide : AllRows (Wide l.fn.tableau.width) l.rest.rows;
}

abbrev pub decreases-loop-e : goal.decreases-loop-e
decreases-loop-e g l = length l.rest.rows
