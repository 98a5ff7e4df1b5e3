use Rattle.std.proofs.Common.{◌≡◌}
use Rattle.relation_core.specs.Systems.{columns}
use Rattle.elim_core.specs.Elimination.{started}
use Rattle.elim_core.specs.Reductions.{Reduces}
use Rattle.elim_core.proofs.Joining.{reduced_base}
use Rattle.elim_core.proofs.Reducing.{reduces_trans}
use Rattle.elim_core.proofs.reductions.reduce.Goals as goal

pub invariant_of-result : goal.invariant_of-result
invariant_of-result g c =
    let v : c.in_ok-relieved.relieved.variables ≡ columns c.args.base.now.shape = rw c.in_ok-started.ensures at c.in_ok-relieved.ensures.variables in
    let s : Reduces (columns c.args.base.now.shape) (started c.args.base.now.rows) c.in_ok-relieved.relieved.rows = rw c.in_ok-started.ensures at c.in_ok-relieved.ensures.rows in
    let t : Reduces (columns c.args.base.now.shape) c.in_ok-relieved.relieved.rows c.in_ok-reduced.reduced.rows = rw v at c.in_ok-reduced.ensures.rows in
    rw (c.in_ok-base.ensures, c.into_rows.ensures.rows)
    (reduced_base (columns c.args.base.now.shape) c.args.base.now.rows c.in_ok-reduced.reduced.rows c.row_count-rows.ensures.wide
    (reduces_trans (columns c.args.base.now.shape) (started c.args.base.now.rows) c.in_ok-relieved.relieved.rows c.in_ok-reduced.reduced.rows s t))
