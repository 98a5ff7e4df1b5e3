use Rattle.std.specs.Prelude.{◌++◌, pos, length, replicate}
use Rattle.std.proofs.Common.{arith, ap, ◌∙◌}
use Rattle.row_core.proofs.Sparse.{length_spread, more_zeros}
use Rattle.row_core.proofs.sparse_rows.SparseRow.push_zeros.Goals as goal

pub overflow_add-self : goal.overflow_add-self
overflow_add-self c = omega (arith, length_spread 0 c.self.inside.len c.self.inside.entries.items, ap length c.self.view_is)

pub invariant_of-self : goal.invariant_of-self
invariant_of-self c = (more_zeros c.args.count c.self.inside.len c.self.inside.entries.items c.self.invariant).sparse

pub returns : goal.returns
returns c =
    (more_zeros c.args.count c.self.inside.len c.self.inside.entries.items c.self.invariant).row
    ∙ ap (λ row. row ++ replicate c.args.count (pos 0)) c.self.view_is
