use Rattle.std.proofs.Common.{◌≡◌, ◌<◌, sym, ◌∙◌, length, true, arith}
use Rattle.relation_core.specs.Systems.{row_at}
use Rattle.elim_core.specs.Elimination.{is_equal}
use Rattle.elim_core.proofs.CodeSteps.{found_equality}
use Rattle.elim_core.proofs.substitutions.find_equality.Goals as goal

pub returns-then-is_equality : goal.returns-then-is_equality
returns-then-is_equality g c =
    let l : c.loop-k.k < length c.args.tableau.now.rows = omega (arith, c.loop-k-test.true, c.row_count-k-end.ensures) in
    let a : is_equal (row_at c.args.tableau.now.rows c.loop-k.k).kind ≡ true = rw (← c.row.ensures.at) (sym c.is_equality.ensures ∙ c.if-is_equality.true) in
    let f = found_equality c.args.tableau.now.rows c.loop-k.k l a c.loop-k.invariant.left c.loop-k.invariant.rest in
    (l, f.first, f.rest)
