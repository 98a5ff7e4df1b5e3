use Rattle.std.proofs.Common.{arith, ◌≤◌, ◌^◌}
use Rattle.std.proofs.lemmas.List.{drop_all}
use Rattle.row_core.specs.Rows.{combined_weight}
use Rattle.row_core.proofs.Rows.{from_heavy}
use Rattle.row_core.proofs.arithmetic.combine.Goals as goal

pub returns-clause-fits : goal.returns-clause-fits
returns-clause-fits c = λ h.
    let w : 2 ^ 127 ≤ combined_weight c.args.p c.args.a.now c.args.q c.args.b.now = from_heavy _ _ _ _ h in
    let e = drop_all c.loop-k.k c.args.a.now (omega arith) in
    absurd (omega (arith, rw e at (c.loop-k.invariant.weight.1 w)))
