-- Joined and widened systems are well formed.
use Rattle.std.specs.Prelude.{pos, ℕ, zero, suc, ◌+◌, ◌<◌, ◌≤◌, ◌≡◌, List, [], ◌∷◌, ◌++◌, length, map, insert}
use Rattle.std.proofs.Common.{arith}
use Rattle.std.proofs.lemmas.List.Edits.{length-insert}
use Rattle.row_core.specs.Rows.{AreCoefficients}
use Rattle.row_core.proofs.Rows.{coefficients_insert}
use Rattle.relation_core.specs.declared.shapes.Shape.{Shape}
use Rattle.relation_core.specs.declared.part_rows.PartRow.{PartRow}
use Rattle.relation_core.specs.Systems.{System, width, row_at, IsWellFormed, with_zero, with_local}

-- what holds of each row of two lists holds of each row of both
pub each_append : (P : PartRow → Type 0) (a b : List PartRow)
    → ((k : ℕ) → k < length a → P (row_at a k)) → ((k : ℕ) → k < length b → P (row_at b k))
    → (k : ℕ) → k < length (a ++ b) → P (row_at (a ++ b) k)
each_append P [] b f g k h = g k h
each_append P (r ∷ a) b f g zero h = f zero (omega arith)
each_append P (r ∷ a) b f g (suc k) h = each_append P a b (λ j l. f (suc j) (omega arith)) g k (omega arith)

any_append : (P : PartRow → Type 0) (a b : List PartRow)
    → ((k : ℕ) → P (row_at a k)) → ((k : ℕ) → P (row_at b k)) → (k : ℕ) → P (row_at (a ++ b) k)
any_append P [] b f g k = g k
any_append P (r ∷ a) b f g zero = f zero
any_append P (r ∷ a) b f g (suc k) = any_append P a b (λ j. f (suc j)) g k

pub form_append : (shape : Shape) (a b : List PartRow) → IsWellFormed shape a → IsWellFormed shape b → IsWellFormed shape (a ++ b)
form_append shape a b f g = record {
  limits = f.limits;
  widths = each_append (λ row. length row.entries ≡ width shape) a b f.widths g.widths;
  ranges = any_append (λ row. AreCoefficients row.entries) a b f.ranges g.ranges;
}

widths_insert : (n m c : ℕ) (rows : List PartRow) → c ≤ n → m ≡ n + 1
    → ((k : ℕ) → k < length rows → length (row_at rows k).entries ≡ n)
    → (k : ℕ) → k < length (map (with_zero c) rows) → length (row_at (map (with_zero c) rows) k).entries ≡ m
widths_insert n m c [] l e f k h = absurd (omega arith)
widths_insert n m c (r ∷ rows) l e f zero h =
    let w : length r.entries ≡ n = f zero (omega arith) in
    let i : length (insert r.entries c (pos 0)) ≡ length r.entries + 1 = length-insert r.entries c (pos 0) (omega arith) in
    omega arith
widths_insert n m c (r ∷ rows) l e f (suc k) h =
    widths_insert n m c rows l e (λ j g. f (suc j) (omega arith)) k (omega arith)

ranges_insert : (c : ℕ) (rows : List PartRow) → ((k : ℕ) → AreCoefficients (row_at rows k).entries)
    → (k : ℕ) → AreCoefficients (row_at (map (with_zero c) rows) k).entries
ranges_insert c [] f k = f k
ranges_insert c (r ∷ rows) f zero = coefficients_insert r.entries c (pos 0) (f zero) (omega arith)
ranges_insert c (r ∷ rows) f (suc k) = ranges_insert c rows (λ j. f (suc j)) k

pub form_with_local : (part : System) (at : ℕ) → at ≤ part.shape.locals → part.shape.locals < 65536
    → IsWellFormed part.shape part.rows → IsWellFormed (with_local part at).shape (with_local part at).rows
form_with_local part at l room f = record {
  limits = record { outputs = f.limits.outputs; inputs = f.limits.inputs; locals = omega arith; parameters = f.limits.parameters };
  widths = widths_insert (width part.shape) (width (with_local part at).shape) (part.shape.outputs + part.shape.inputs + at) part.rows (omega arith) (omega arith) f.widths;
  ranges = ranges_insert (part.shape.outputs + part.shape.inputs + at) part.rows f.ranges;
}
