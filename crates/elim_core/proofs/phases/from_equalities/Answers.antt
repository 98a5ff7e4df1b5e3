use Rattle.std.proofs.Common.{◌≡◌, ◌+◌, ◌-◌, sym, ◌∙◌, Some, None, arith}
use Rattle.relation_core.specs.Systems.{row_at}
use Rattle.elim_core.specs.Elimination.{refutation_of, normalised, without}
use Rattle.elim_core.specs.Tableaux.{with_rows}
use Rattle.elim_core.proofs.Leads.{leads_trans, equality_leads, equality_ends}
use Rattle.elim_core.proofs.phases.from_equalities.Goals as goal

pub returns-in-Some-2-clause-ok : goal.returns-in-Some-2-clause-ok
returns-in-Some-2-clause-ok g c =
    let r : refutation_of c.loop-left.tableau.variables (without c.loop-left.tableau.variables (row_at c.loop-left.tableau.rows c.in-Some.k) c.loop-left.tableau.rows) ≡ Some c.in-Some-2.certificate =
    sym (rw c.in_ok-made.ensures.ok at c.in_ok-certificate.ensures) ∙ c.in-Some-2.is in
    let l : c.loop-left.left ≡ (c.loop-left.left - 1) + 1 = omega arith in
    sym (equality_ends c.loop-left.tableau.variables c.loop-left.left (c.loop-left.left - 1) c.args.columns.now (row_at c.loop-left.tableau.rows c.in-Some.k) c.loop-left.tableau.rows c.in-Some-2.certificate l c.in-Some.ensures.1 r)
    ∙ c.loop-left.invariant.leads.refutation

pub loop-left-preserved : goal.loop-left-preserved
loop-left-preserved g c =
    let r : refutation_of c.loop-left.tableau.variables (without c.loop-left.tableau.variables (row_at c.loop-left.tableau.rows c.in-Some.k) c.loop-left.tableau.rows) ≡ None =
    sym (rw c.in_ok-made.ensures.ok at c.in_ok-certificate.ensures) ∙ c.in-None.is in
    let l : c.loop-left.left ≡ (c.loop-left.left - 1) + 1 = omega arith in
    let t : c.in_ok-tableau.tableau ≡ with_rows c.loop-left.tableau (normalised c.loop-left.tableau.variables (without c.loop-left.tableau.variables (row_at c.loop-left.tableau.rows c.in-Some.k) c.loop-left.tableau.rows)) =
    rw c.in_ok-made.ensures.ok at c.in_ok-tableau.ensures in
    let s = equality_leads c.loop-left.tableau.variables c.loop-left.left (c.loop-left.left - 1) c.args.columns.now (row_at c.loop-left.tableau.rows c.in-Some.k) c.loop-left.tableau.rows l c.in-Some.ensures.1 r in
    record { leads = rw t (leads_trans s c.loop-left.invariant.leads); same = rw t c.loop-left.invariant.same }
