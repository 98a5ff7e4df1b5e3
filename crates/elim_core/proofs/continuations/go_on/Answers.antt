use Rattle.std.proofs.Common.{◌∙◌, arith}
use Rattle.elim_core.proofs.Joining.{settles_ok}
use Rattle.elim_core.proofs.continuations.go_on.Goals as goal

pub returns : goal.returns
returns g c =
    settles_ok c.args.system.now c.in_ok-tableau.tableau.variables c.as_slice.result.now c.in_ok-tableau.tableau.rows c.row_count-most.result c.from_rows.result
    c.in_ok-tableau.ensures.variables (c.as_slice.ensures.value ∙ c.in_ok-columns.ensures.order)
    c.in_ok-tableau.ensures.rows (omega (arith, c.row_count-most.ensures)) c.from_rows.ensures.ok
