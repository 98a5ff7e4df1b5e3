-- No step but a projection makes more rows, and a substitution makes one fewer.
use Rattle.std.proofs.Common.{◌≡◌, refl, inl, inr, ℕ, ◌+◌, ◌≤◌, List, [], ◌∷◌, length, arith}
use Rattle.std.specs.Prelude.{Some, int_le}
use Rattle.std.proofs.lemmas.List.{length-append}
use Rattle.row_core.specs.Rows.{entry}
use Rattle.relation_core.specs.declared.part_rows.PartRow.{PartRow}
use Rattle.elim_core.specs.Elimination.{is_equal, is_constant, with_variables, alike, admitted, pruned_onto, normalised, first_equality, without_equality, substituted}
use Rattle.elim_core.proofs.Tests.{by_bool}

length_with_variables : (n : ℕ) (ws : List PartRow) → length (with_variables n ws) ≤ length ws
length_with_variables n [] = omega arith
length_with_variables n (w ∷ ws) = elim (by_bool (is_constant n w)) [
  | inl e ↦ rw e (omega (arith, length_with_variables n ws))
  | inr e ↦ rw e (omega (arith, length_with_variables n ws))
]

length_admitted : (n : ℕ) (kept : List PartRow) (w : PartRow) → length (admitted n kept w) ≤ length kept + 1
length_admitted n [] w = omega arith
length_admitted n (o ∷ kept) w = elim (by_bool (alike n o w)) [
  | inl e ↦ elim (by_bool (int_le (entry o.entries n) (entry w.entries n))) [
    | inl f ↦ rw (e, f) (omega arith)
    | inr f ↦ rw (e, f) (omega (arith, length-append kept (w ∷ [])))
  ]
  | inr e ↦ rw e (omega (arith, length_admitted n kept w))
]

length_pruned : (n : ℕ) (kept ws : List PartRow) → length (pruned_onto n kept ws) ≤ length kept + length ws
length_pruned n kept [] = omega arith
length_pruned n kept (w ∷ ws) = omega (arith, length_pruned n (admitted n kept w) ws, length_admitted n kept w)

pub length_normalised : (n : ℕ) (ws : List PartRow) → length (normalised n ws) ≤ length ws
length_normalised n ws = omega (arith, length_pruned n [] (with_variables n ws), length_with_variables n ws)

pub length_substituted : (j : ℕ) (e : PartRow) (ws : List PartRow) → length (substituted j e ws) ≡ length ws
length_substituted j e [] = refl
length_substituted j e (w ∷ ws) = omega (arith, length_substituted j e ws)

pub length_without : (ws : List PartRow) (e : PartRow) → first_equality ws ≡ Some e → length (without_equality ws) + 1 ≡ length ws
length_without [] e f = cc
length_without (w ∷ ws) e f = elim (by_bool (is_equal w.kind)) [
  | inl k ↦ rw k (omega arith)
  | inr k ↦ let g : first_equality ws ≡ Some e = rw k at f in rw k (omega (arith, length_without ws e g))
]
