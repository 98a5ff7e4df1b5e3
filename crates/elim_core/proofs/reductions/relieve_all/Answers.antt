use Rattle.std.proofs.Common.{◌≡◌, ap, ◌∙◌, arith}
use Rattle.elim_core.specs.Reductions.{Relieved}
use Rattle.elim_core.specs.Elimination.{without_equality}
use Rattle.elim_core.specs.Tableaux.{Stage}
use Rattle.elim_core.proofs.Reducing.{turned_on, relieved_wide, relieved_length}
use Rattle.elim_core.proofs.reductions.relieve_all.Goals as goal

pub loop-e-smaller : goal.loop-e-smaller
loop-e-smaller g c =
    let r : Relieved c.loop-e.rest.variables c.in-Some.e (without_equality c.loop-e.rest.rows) c.in_ok-rest.rest.rows = rw c.in-Some.ensures.rest at c.in_ok-rest.ensures.rows in
    omega (arith, relieved_length c.loop-e.rest.variables c.in-Some.e c.loop-e.rest.rows c.in_ok-rest.rest.rows c.in-Some.ensures.row.0 r)

pub loop-e-preserved : goal.loop-e-preserved
loop-e-preserved g c =
    let r : Relieved c.loop-e.rest.variables c.in-Some.e (without_equality c.loop-e.rest.rows) c.in_ok-rest.rest.rows = rw c.in-Some.ensures.rest at c.in_ok-rest.ensures.rows in
    let s : Relieved c.args.tableau.variables c.in-Some.e (without_equality c.loop-e.rest.rows) c.in_ok-rest.rest.rows = rw c.loop-e.invariant.variables at r in
    let v : c.in_ok-rest.rest.variables ≡ c.loop-e.rest.variables =
    ap (λ (t : Stage). t.variables) c.in_ok-rest.ensures.same ∙ ap (λ (t : Stage). t.variables) c.in-Some.ensures.rest in
    let w : c.in_ok-rest.rest.width ≡ c.loop-e.rest.width = ap (λ (t : Stage). t.width) c.in_ok-rest.ensures.same ∙ ap (λ (t : Stage). t.width) c.in-Some.ensures.rest in
    record {
      reduces = rw c.in_ok-push.ensures.items (turned_on c.args.tableau.variables c.args.tableau.width c.args.tableau.rows c.loop-e.done.items c.loop-e.rest.rows c.in_ok-rest.rest.rows c.in-Some.e c.loop-e.invariant.reduces c.in-Some.ensures.row.0 c.loop-e.invariant.wide s);
      variables = v ∙ c.loop-e.invariant.variables;
      width = w ∙ c.loop-e.invariant.width;
      wide = relieved_wide c.args.tableau.variables c.args.tableau.width c.in-Some.e c.loop-e.rest.rows c.in_ok-rest.rest.rows c.in-Some.ensures.row.0 s c.loop-e.invariant.wide;
    }

pub new-requires-clause-wide : goal.new-requires-clause-wide
new-requires-clause-wide g c =
    let e = c.in_default.ensures.rest in
    rw (c.width-width.ensures.value, c.in_ok-append.ensures.items, c.into_rows.ensures.rows, e) (c.loop-e.invariant.reduces.widths c.args.tableau.width c.width-width.ensures.wide)
