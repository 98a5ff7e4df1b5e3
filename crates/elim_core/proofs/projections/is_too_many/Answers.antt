use Rattle.std.proofs.Common.{◌≡◌, ap, subst, [], drop, length, ◌+◌, ◌-◌, ◌*◌, ◌<◌, ℕ, arith}
use Rattle.std.proofs.lemmas.List.{drop_all}
use Rattle.elim_core.specs.RowLists.{positives, negatives}
use Rattle.suite_base.specs.Limits.{max_stage_rows}
use Rattle.elim_core.proofs.CodeSteps.{projected_count}
use Rattle.elim_core.proofs.projections.is_too_many.Goals as goal

pub returns : goal.returns
returns g c = λ t.
    let d : drop c.loop-k.k c.args.tableau.now.rows ≡ [] = drop_all c.loop-k.k c.args.tableau.now.rows (omega (arith, c.loop-k-test.false, c.row_count-k-end.ensures)) in
    let a : c.loop-k.rising ≡ positives c.args.j c.args.tableau.now.rows = let h = c.loop-k.invariant.rising in let e = ap (positives c.args.j) d in omega arith in
    let b : c.loop-k.falling ≡ negatives c.args.j c.args.tableau.now.rows = let h = c.loop-k.invariant.falling in let e = ap (negatives c.args.j) d in omega arith in
    let m : max_stage_rows < (length c.args.tableau.now.rows - c.loop-k.rising - c.loop-k.falling) + c.loop-k.rising * c.loop-k.falling = rw (← c.row_count.ensures) (c.is_above.ensures.0 t) in
    subst (λ (n : ℕ). max_stage_rows < n) (projected_count c.args.j c.args.tableau.now.rows c.loop-k.rising c.loop-k.falling a b) m
