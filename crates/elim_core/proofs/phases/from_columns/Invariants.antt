use Rattle.std.proofs.Common.{drop}
use Rattle.elim_core.specs.Elimination.{from_columns, Below}
use Rattle.elim_core.proofs.Leads.{Leads}
use Rattle.elim_core.proofs.phases.from_columns.Given as goal

abbrev pub invariant-loop-j : goal.invariant-loop-j
invariant-loop-j g l = record {
  leads : Leads (from_columns l.tableau.variables (drop l.j-index l.columns) l.tableau.rows) (from_columns l.fn.tableau.variables l.columns l.fn.tableau.rows);
  below : Below l.tableau.variables (drop l.j-index l.columns);
}
