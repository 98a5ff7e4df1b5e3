-- The table of array numbers.
use Rattle.std.proofs.Common.{◌≡◌, ℕ, List, [], ◌∷◌, Bool, true, false, cond, refl, sym, ◌∙◌, ap, ℤ}
use Rattle.std.specs.Prelude.{bytes_eq, Option, None, Some}
use Rattle.std.specs.Global.{Vec}
use Rattle.std.proofs.lemmas.Slice.Eq.{bytes_eq-Decides}
use Rattle.indexmap.specs.IndexMap.{insert_entry}
use Rattle.clan_rows.proofs.LayerLaws.{same_test, false_is_not_true}
use Rattle.clan_walk.specs.Places.{numbered_as}

bytes_sym : (a b : List ℕ) → bytes_eq a b ≡ bytes_eq b a
bytes_sym a b = same_test _ _ (λ e. (bytes_eq-Decides b a).1 (sym ((bytes_eq-Decides a b).0 e))) (λ e. (bytes_eq-Decides a b).1 (sym ((bytes_eq-Decides b a).0 e)))

-- equal bytes have the same tests
bytes_same : (a b c : List ℕ) → bytes_eq a b ≡ true → bytes_eq a c ≡ bytes_eq b c
bytes_same a b c e = ap (λ x. bytes_eq x c) ((bytes_eq-Decides a b).0 e)

-- what a table has for a name once a key has a number
pub put_in : (es : List (Vec ℕ × ℤ)) (key : Vec ℕ) (z : ℤ) (name : List ℕ)
    → numbered_as name (insert_entry (λ x y. bytes_eq x.items y.items) es key z) ≡ cond (bytes_eq key.items name) (Some z) (numbered_as name es)
put_in [] key z name = ap (λ t. cond t (Some z) None) (bytes_sym name key.items)
put_in (e ∷ es) key z name = by (bytes_eq key.items e.0.items) refl (put_in es key z name)
  where
    taken : (u v : Bool) (old : Option ℤ) → v ≡ u → cond u (Some z) old ≡ cond v (Some z) (cond u (Some e.1) old)
    taken true true old w = refl
    taken true false old w = absurd cc
    taken false true old w = absurd cc
    taken false false old w = refl

    passed : (u v : Bool) (old new : Option ℤ) → (u ≡ true → v ≡ true → ⊥) → new ≡ cond v (Some z) old → cond u (Some e.1) new ≡ cond v (Some z) (cond u (Some e.1) old)
    passed true true old new n r = absurd (n refl refl)
    passed true false old new n r = refl
    passed false v old new n r = r

    same : bytes_eq key.items e.0.items ≡ false → bytes_eq name e.0.items ≡ true → bytes_eq key.items name ≡ true → ⊥
    same h t u =
        let both : bytes_eq key.items e.0.items ≡ true = (bytes_eq-Decides key.items e.0.items).1 ((bytes_eq-Decides key.items name).0 u ∙ (bytes_eq-Decides name e.0.items).0 t) in
        false_is_not_true (sym h ∙ both)

    by : (t : Bool) → bytes_eq key.items e.0.items ≡ t
        → numbered_as name (insert_entry (λ x y. bytes_eq x.items y.items) es key z) ≡ cond (bytes_eq key.items name) (Some z) (numbered_as name es)
        → numbered_as name (cond t ((e.0, z) ∷ es) (e ∷ insert_entry (λ x y. bytes_eq x.items y.items) es key z)) ≡ cond (bytes_eq key.items name) (Some z) (numbered_as name (e ∷ es))
    by true h rest = taken (bytes_eq name e.0.items) (bytes_eq key.items name) (numbered_as name es) (bytes_same key.items e.0.items name h ∙ bytes_sym e.0.items name)
    by false h rest = passed (bytes_eq name e.0.items) (bytes_eq key.items name) (numbered_as name es) _ (same h) rest
