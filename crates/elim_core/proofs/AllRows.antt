-- What each step of the elimination keeps of every row.
use Rattle.std.proofs.Common.{◌≡◌, subst, inl, inr, ℕ, List, [], ◌∷◌, ◌++◌}
use Rattle.std.specs.Prelude.{true, false, int_lt, int_le, ℤ, pos, Some, None}
use Rattle.row_core.specs.Rows.{entry}
use Rattle.relation_core.specs.declared.part_rows.PartRow.{PartRow}
use Rattle.elim_core.specs.Elimination.{is_zero, is_constant, with_variables, alike, admitted, pruned_onto, normalised, flat_rows, against, crossed, crossing, projected, substituted, substituted_row, first_equality, without_equality, is_equal, refutation_of, is_contradiction, certificate_of}
use Rattle.elim_core.specs.RowLists.{AllRows}
use Rattle.elim_core.proofs.Tests.{by_bool}

pub all_append : (P : PartRow → Type 0) (a b : List PartRow) → AllRows P a → AllRows P b → AllRows P (a ++ b)
all_append P [] b p q = q
all_append P (w ∷ a) b p q = (p.0, all_append P a b p.1 q)

pub all_with_variables : (P : PartRow → Type 0) (n : ℕ) (ws : List PartRow) → AllRows P ws → AllRows P (with_variables n ws)
all_with_variables P n [] p = tt
all_with_variables P n (w ∷ ws) p = elim (by_bool (is_constant n w)) [
  | inl e ↦ rw e (all_with_variables P n ws p.1)
  | inr e ↦ rw e (p.0, all_with_variables P n ws p.1)
]

pub all_admitted : (P : PartRow → Type 0) (n : ℕ) (kept : List PartRow) (w : PartRow) → AllRows P kept → P w → AllRows P (admitted n kept w)
all_admitted P n [] w p q = (q, tt)
all_admitted P n (o ∷ kept) w p q = elim (by_bool (alike n o w)) [
  | inl e ↦ elim (by_bool (int_le (entry o.entries n) (entry w.entries n))) [
    | inl f ↦ rw (e, f) p
    | inr f ↦ rw (e, f) (all_append P kept (w ∷ []) p.1 (q, tt))
  ]
  | inr e ↦ rw e (p.0, all_admitted P n kept w p.1 q)
]

pub all_pruned : (P : PartRow → Type 0) (n : ℕ) (kept ws : List PartRow) → AllRows P kept → AllRows P ws → AllRows P (pruned_onto n kept ws)
all_pruned P n kept [] p q = p
all_pruned P n kept (w ∷ ws) p q = all_pruned P n (admitted n kept w) ws (all_admitted P n kept w p q.0) q.1

pub all_normalised : (P : PartRow → Type 0) (n : ℕ) (ws : List PartRow) → AllRows P ws → AllRows P (normalised n ws)
all_normalised P n ws p = all_pruned P n [] (with_variables n ws) tt (all_with_variables P n ws p)

-- a row that is left has a variable
abbrev pub HasVariables : ℕ → PartRow → Type 0
HasVariables n w = is_constant n w ≡ false

pub variables_left : (n : ℕ) (ws : List PartRow) → AllRows (HasVariables n) (with_variables n ws)
variables_left n [] = tt
variables_left n (w ∷ ws) = elim (by_bool (is_constant n w)) [
  | inl e ↦ rw e (variables_left n ws)
  | inr e ↦ rw e (e, variables_left n ws)
]

pub normalised_variables : (n : ℕ) (ws : List PartRow) → AllRows (HasVariables n) (normalised n ws)
normalised_variables n ws = all_pruned (HasVariables n) n [] (with_variables n ws) tt (variables_left n ws)

pub all_flat : (P Q : PartRow → Type 0) (j : ℕ) (ws : List PartRow) → ((w : PartRow) → P w → is_zero (entry w.entries j) ≡ true → Q w) → AllRows P ws → AllRows Q (flat_rows j ws)
all_flat P Q j [] h p = tt
all_flat P Q j (w ∷ ws) h p = elim (by_bool (is_zero (entry w.entries j))) [
  | inl e ↦ rw e (h w p.0 e, all_flat P Q j ws h p.1)
  | inr e ↦ rw e (all_flat P Q j ws h p.1)
]

-- what every crossing of two rows with P has
abbrev pub Crosses : (P Q : PartRow → Type 0) → ℕ → Type 0
Crosses P Q j = (p q : PartRow) → P p → P q → int_lt (pos 0) (entry p.entries j) ≡ true → int_lt (entry q.entries j) (pos 0) ≡ true → Q (crossing j p q)

pub all_against : (P Q : PartRow → Type 0) (j : ℕ) (p : PartRow) (ws : List PartRow) → Crosses P Q j → P p → int_lt (pos 0) (entry p.entries j) ≡ true → AllRows P ws → AllRows Q (against j p ws)
all_against P Q j p [] h a l b = tt
all_against P Q j p (q ∷ ws) h a l b = elim (by_bool (int_lt (entry q.entries j) (pos 0))) [
  | inl e ↦ rw e (h p q a b.0 l e, all_against P Q j p ws h a l b.1)
  | inr e ↦ rw e (all_against P Q j p ws h a l b.1)
]

pub all_crossed : (P Q : PartRow → Type 0) (j : ℕ) (ps ws : List PartRow) → Crosses P Q j → AllRows P ps → AllRows P ws → AllRows Q (crossed j ps ws)
all_crossed P Q j [] ws h a b = tt
all_crossed P Q j (p ∷ ps) ws h a b = elim (by_bool (int_lt (pos 0) (entry p.entries j))) [
  | inl e ↦ rw e (all_append Q (against j p ws) (crossed j ps ws) (all_against P Q j p ws h a.0 e b) (all_crossed P Q j ps ws h a.1 b))
  | inr e ↦ rw e (all_crossed P Q j ps ws h a.1 b)
]

pub all_projected : (P Q : PartRow → Type 0) (j : ℕ) (ws : List PartRow) → ((w : PartRow) → P w → is_zero (entry w.entries j) ≡ true → Q w) → Crosses P Q j → AllRows P ws → AllRows Q (projected j ws)
all_projected P Q j ws f h a = all_append Q (flat_rows j ws) (crossed j ws ws) (all_flat P Q j ws f a) (all_crossed P Q j ws ws h a a)

pub all_substituted : (P Q : PartRow → Type 0) (j : ℕ) (e : PartRow) (ws : List PartRow) → ((w : PartRow) → P w → Q (substituted_row j e w)) → AllRows P ws → AllRows Q (substituted j e ws)
all_substituted P Q j e [] h p = tt
all_substituted P Q j e (w ∷ ws) h p = (h w p.0, all_substituted P Q j e ws h p.1)

pub all_without_equality : (P : PartRow → Type 0) (ws : List PartRow) → AllRows P ws → AllRows P (without_equality ws)
all_without_equality P [] p = tt
all_without_equality P (w ∷ ws) p = elim (by_bool (is_equal w.kind)) [
  | inl e ↦ rw e p.1
  | inr e ↦ rw e (p.0, all_without_equality P ws p.1)
]

pub at_first_equality : (P : PartRow → Type 0) (ws : List PartRow) (w : PartRow) → first_equality ws ≡ Some w → AllRows P ws → P w × (is_equal w.kind ≡ true)
at_first_equality P [] w s p = cc
at_first_equality P (o ∷ ws) w s p = elim (by_bool (is_equal o.kind)) [
  | inl e ↦ let h : Some o ≡ Some w = rw e at s in let g : o ≡ w = cc in rw (← g) (p.0, e)
  | inr e ↦ let h : first_equality ws ≡ Some w = rw e at s in at_first_equality P ws w h p.1
]

pub no_equality : (ws : List PartRow) → first_equality ws ≡ None → AllRows (λ w. is_equal w.kind ≡ false) ws
no_equality [] s = tt
no_equality (o ∷ ws) s = elim (by_bool (is_equal o.kind)) [
  | inl e ↦ let h : Some o ≡ None = rw e at s in cc
  | inr e ↦ let h : first_equality ws ≡ None = rw e at s in (e, no_equality ws h)
]

-- a certificate of some row is found, or no row is a contradiction
pub at_refutation : (P : PartRow → Type 0) (Q : List ℤ → Type 0) (n : ℕ) (ws : List PartRow) (c : List ℤ) → ((w : PartRow) → P w → is_contradiction n w ≡ true → Q (certificate_of n w)) → refutation_of n ws ≡ Some c → AllRows P ws → Q c
at_refutation P Q n [] c h s p = cc
at_refutation P Q n (o ∷ ws) c h s p = elim (by_bool (is_contradiction n o)) [
  | inl e ↦ let f : Some (certificate_of n o) ≡ Some c = rw e at s in let g : certificate_of n o ≡ c = cc in subst Q g (h o p.0 e)
  | inr e ↦ let f : refutation_of n ws ≡ Some c = rw e at s in at_refutation P Q n ws c h f p.1
]

pub no_refutation : (n : ℕ) (ws : List PartRow) → refutation_of n ws ≡ None → AllRows (λ w. is_contradiction n w ≡ false) ws
no_refutation n [] s = tt
no_refutation n (o ∷ ws) s = elim (by_bool (is_contradiction n o)) [
  | inl e ↦ let f : Some (certificate_of n o) ≡ None = rw e at s in cc
  | inr e ↦ let f : refutation_of n ws ≡ None = rw e at s in (e, no_refutation n ws f)
]
