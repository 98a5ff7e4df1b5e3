use Rattle.std.specs.Prelude.{◌≡◌, drop, length, swap}
use Rattle.std.proofs.Common.{rules, sym, ◌∙◌, ap, subst}
use Rattle.std.proofs.lemmas.List.{take_at}
use Rattle.row_core.specs.Rows.{AreCoefficients}
use Rattle.row_core.proofs.Rows.{coefficients_swap}
use Rattle.row_core.proofs.dense_rows.DenseRow.swap.Goals as goal

pub invariant_of-self : goal.invariant_of-self
invariant_of-self c =
    let now = c.self.inside.coeffs.items in
    let next = c.swap.new.self in
    let i = c.args.i in
    let j = c.args.j in
    let same : c.as_mut_slice.result.now ≡ now = c.as_mut_slice.ensures.value in
    let long : length next ≡ length now = c.swap.ensures.len ∙ ap length same in
    let swapped : next ≡ swap now i j = c.swap.ensures.after ∙ ap (λ row. swap row i j) same in
    let whole = take_at next (drop (length next) now) (length now) long in
    subst AreCoefficients (sym (whole ∙ swapped)) (coefficients_swap now i j (search rules) (search rules) c.self.invariant)
