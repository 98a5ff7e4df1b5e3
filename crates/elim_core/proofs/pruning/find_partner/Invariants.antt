use Rattle.std.proofs.Common.{◌≡◌, ◌<◌, ℕ}
use Rattle.std.specs.Prelude.{false}
use Rattle.relation_core.specs.Systems.{row_at}
use Rattle.elim_core.specs.Pruning.{is_partner}
use Rattle.elim_core.proofs.pruning.find_partner.Given as goal

abbrev pub invariant-loop-i : goal.invariant-loop-i
invariant-loop-i g l = (j : ℕ) → j < l.i → is_partner l.tableau.variables l.tableau.rows l.stays (row_at l.tableau.rows l.k) j ≡ false
