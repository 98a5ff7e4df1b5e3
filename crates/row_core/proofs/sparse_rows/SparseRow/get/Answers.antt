use Rattle.std.proofs.Common.{ap, ◌∙◌, subst}
use Rattle.std.specs.Prelude.{ℕ, ◌≡◌, ◌+◌}
use Rattle.std.proofs.Common.{arith}
use Rattle.row_core.specs.Rows.{entry}
use Rattle.row_core.specs.Sparse.{nonzeros, value_among}
use Rattle.row_core.proofs.Sparse.{found_is}
use Rattle.row_core.proofs.sparse_rows.SparseRow.get.Goals as goal

pub returns : goal.returns
returns c =
    let row = c.args.self.now in
    let k = c.args.k in
    let e : 0 + k ≡ k = omega arith in
    let found : value_among k (nonzeros 0 row) ≡ entry row k =
    subst (λ (j : ℕ). value_among j (nonzeros 0 row) ≡ entry row k) e (found_is 0 k row) in
    c.value_among.ensures ∙ ap (value_among k) c.entries.ensures ∙ found
