use Rattle.std.specs.Prelude.{◌+◌, ◌++◌, ◌∷◌, [], length}
use Rattle.std.proofs.Common.{arith, ap, ◌∙◌}
use Rattle.row_core.specs.Sparse.{spread}
use Rattle.row_core.proofs.Sparse.{length_spread, sparse_zero, spread_zero, sparse_more, spread_more, not_zero}
use Rattle.row_core.proofs.sparse_rows.SparseRow.push.Goals as goal

pub overflow_add-self : goal.overflow_add-self
overflow_add-self c = omega (arith, length_spread 0 c.self.inside.len c.self.inside.entries.items, ap length c.self.view_is)

pub invariant_of-self : goal.invariant_of-self
invariant_of-self c =
    sparse_zero c.self.inside.len c.self.inside.entries.items c.args.value c.self.invariant (c.is_zero.ensures.answer.0 c.if-is_zero.true)

pub returns-then-is_zero-clause-ok : goal.returns-then-is_zero-clause-ok
returns-then-is_zero-clause-ok c =
    spread_zero c.self.inside.len c.self.inside.entries.items c.args.value c.self.invariant (c.is_zero.ensures.answer.0 c.if-is_zero.true)
    ∙ ap (λ row. row ++ c.args.value ∷ []) c.self.view_is

pub overflow_add-self-2 : goal.overflow_add-self-2
overflow_add-self-2 c = omega (arith, length_spread 0 c.self.inside.len c.self.inside.entries.items, ap length c.self.view_is)

pub invariant_of-self-2 : goal.invariant_of-self-2
invariant_of-self-2 c =
    rw c.in_ok-push.ensures.items
    (sparse_more c.self.inside.len c.self.inside.entries.items c.args.value c.self.invariant (not_zero c.args.value (λ e. cc (c.is_zero.ensures.answer.1 e, c.if-is_zero.false))) c.is_zero.ensures.range)

pub returns-clause-ok : goal.returns-clause-ok
returns-clause-ok c =
    let more = spread_more c.self.inside.len c.self.inside.entries.items c.args.value c.self.invariant (not_zero c.args.value (λ e. cc (c.is_zero.ensures.answer.1 e, c.if-is_zero.false))) in
    ap (spread 0 (c.self.inside.len + 1)) c.in_ok-push.ensures.items ∙ more ∙ ap (λ row. row ++ c.args.value ∷ []) c.self.view_is
