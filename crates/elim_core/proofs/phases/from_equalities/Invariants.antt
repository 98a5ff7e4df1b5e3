use Rattle.std.proofs.Common.{◌≡◌}
use Rattle.elim_core.specs.Elimination.{from_equalities}
use Rattle.elim_core.proofs.Leads.{Leads}
use Rattle.elim_core.proofs.phases.from_equalities.Given as goal

abbrev pub invariant-loop-left : goal.invariant-loop-left
invariant-loop-left g l = record {
  leads : Leads (from_equalities l.tableau.variables l.columns l.left l.tableau.rows) (from_equalities l.fn.tableau.variables l.columns l.most l.fn.tableau.rows);
  same : l.tableau.variables ≡ l.fn.tableau.variables;
}

abbrev pub decreases-loop-left : goal.decreases-loop-left
decreases-loop-left g l = l.left
