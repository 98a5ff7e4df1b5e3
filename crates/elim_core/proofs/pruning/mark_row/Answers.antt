use Rattle.std.proofs.Common.{◌≡◌, sym, ◌∙◌, true, false}
use Rattle.relation_core.specs.Systems.{row_at}
use Rattle.elim_core.specs.Elimination.{is_constant, is_equal}
use Rattle.elim_core.proofs.Marking.{adds_constant, adds_equality}
use Rattle.elim_core.proofs.pruning.mark_row.Goals as goal

pub returns-then-is_constant : goal.returns-then-is_constant
returns-then-is_constant g c =
    let e : is_constant c.args.tableau.now.variables (row_at c.args.tableau.now.rows c.args.k) ≡ true = rw (← c.row-w.ensures.at, ← c.variables.ensures.value) (sym c.is_constant.ensures ∙ c.if-is_constant.true) in
    rw c.in_ok-push.ensures.items (adds_constant _ _ _ _ _ c.requires.place c.requires.count c.requires.indexed e)

pub returns-then-is_equality : goal.returns-then-is_equality
returns-then-is_equality g c =
    let e : is_constant c.args.tableau.now.variables (row_at c.args.tableau.now.rows c.args.k) ≡ false = rw (← c.row-w.ensures.at, ← c.variables.ensures.value) (sym c.is_constant.ensures ∙ c.if-is_constant.false) in
    let q : is_equal (row_at c.args.tableau.now.rows c.args.k).kind ≡ true = rw (← c.row-w.ensures.at) (sym c.is_equality.ensures ∙ c.if-is_equality.true) in
    rw c.in_ok-push-2.ensures.items (adds_equality _ _ _ _ _ c.requires.place c.requires.count c.requires.indexed e q)
